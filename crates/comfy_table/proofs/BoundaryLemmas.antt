-- In tables of equal width and style, a constraint gives the same boundaries and the same fixed width.
use Rattle.std.proofs.Common.{◌≡◌, ℕ, Option, Some, None, option_map, refl, ap, ap₂}
use Rattle.comfy_parts.specs.declared.style.column.ColumnConstraint.{ColumnConstraint}
use Rattle.comfy_parts.specs.declared.style.column.ColumnConstraint.TheVariants as constraint
use Rattle.comfy_parts.specs.declared.style.column.Width.{Width}
use Rattle.comfy_parts.specs.declared.style.column.Width.TheVariants.{Fixed, Percentage}
use Rattle.comfy_parts.specs.declared.style.table_style.TableStyle.{TableStyle}
use Rattle.comfy_table.specs.Frame.{border_count}
use Rattle.comfy_table.specs.TableValue.{TableValue, table_width}
use Rattle.comfy_table.specs.Widths.{fixed_by_boundary, fixed_by_constraint, lower_boundary, percentage_of, resolved_width, upper_boundary, without_padding}

module _ (table other : TableValue) (width : table_width table ≡ table_width other) (style : table.style ≡ other.style) (n : ℕ) where
  resolved_same : (w : Width) → resolved_width table n w ≡ resolved_width other n w
  resolved_same (Fixed x) = refl
  resolved_same (Percentage p) = ap₂ (λ (o : Option ℕ) (s : TableStyle). percentage_of o (border_count s n) p) width style

  pub lower_same : (o : Option ColumnConstraint) → lower_boundary table n o ≡ lower_boundary other n o
  lower_same None = refl
  lower_same (Some constraint.Hidden) = refl
  lower_same (Some constraint.ContentWidth) = refl
  lower_same (Some (constraint.Absolute w)) = refl
  lower_same (Some (constraint.LowerBoundary w)) = resolved_same w
  lower_same (Some (constraint.UpperBoundary w)) = refl
  lower_same (Some (constraint.Boundaries lower upper)) = resolved_same lower

  pub upper_same : (o : Option ColumnConstraint) → upper_boundary table n o ≡ upper_boundary other n o
  upper_same None = refl
  upper_same (Some constraint.Hidden) = refl
  upper_same (Some constraint.ContentWidth) = refl
  upper_same (Some (constraint.Absolute w)) = refl
  upper_same (Some (constraint.LowerBoundary w)) = refl
  upper_same (Some (constraint.UpperBoundary w)) = resolved_same w
  upper_same (Some (constraint.Boundaries lower upper)) = resolved_same upper

  pub fixed_same : (content padding : ℕ) (o : Option ColumnConstraint) → fixed_by_constraint table n content padding o ≡ fixed_by_constraint other n content padding o
  fixed_same content padding None = refl
  fixed_same content padding (Some constraint.Hidden) = refl
  fixed_same content padding (Some constraint.ContentWidth) = refl
  fixed_same content padding (Some (constraint.Absolute w)) = ap (option_map (without_padding padding)) (resolved_same w)
  fixed_same content padding (Some (constraint.LowerBoundary w)) = ap (fixed_by_boundary content padding) (resolved_same w)
  fixed_same content padding (Some (constraint.UpperBoundary w)) = refl
  fixed_same content padding (Some (constraint.Boundaries lower upper)) = ap (fixed_by_boundary content padding) (resolved_same lower)
