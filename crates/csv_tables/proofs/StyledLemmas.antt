-- Tables of columns with their own settings, and those without settings.
use Rattle.std.proofs.Common.{◌≡◌, ◌&&◌, ◌||◌, ◌==◌, ◌-◌, ◌++◌, not, ℕ, zero, suc, Bool, true, false, List, [], ◌∷◌, Option, Some, None, is_some, length, map, min, refl, subst, sym, ap, ap₂, ◌∙◌}
use Rattle.std.specs.List.{list_all, list_any, range_with_len}
use Rattle.std.specs.Prelude.{if◌then◌else◌}
use Rattle.std.proofs.lemmas.Bool.{or_parts}
use Rattle.comfy_parts.specs.Text.{Text}
use Rattle.comfy_table.specs.TableValue.{TableValue, column_content_width}
use Rattle.csv_tables.proofs.CountLemmas.{below_header}
use Rattle.csv_tables.proofs.SpacedLemmas.{same_table}
use Rattle.comfy_parts.specs.declared.style.cell.CellAlignment.TheVariants.{Center}
use Rattle.csv_tables.specs.Decimals.{has_points}
use Rattle.csv_tables.specs.Drawn.{RendersAnyRecords, RendersContent, RendersRecords, RendersTable, SelectedValue, count_below, wanted_in}
use Rattle.csv_tables.specs.Leasts.{least_position, least_positions}
use Rattle.csv_tables.specs.Limits.{has_room_in, has_room_within, hold_points, holds_points, is_within, limits_at, limits_of, no_limits, reached_limits, settings_at, with_paddings}
use Rattle.csv_tables.specs.Styled.{RendersAnyStyledRecords, RendersStyledContent, RendersStyledRecords, RendersStyledTable, centered, column_limits, dressed_table, has_room_by, limits_in, styled_rows}
use Rattle.csv_tables.specs.Settings.{SettingsValue, no_settings}
use Rattle.csv_tables.specs.declared.limits.ColumnLimits.{ColumnLimits}
use Rattle.csv_tables.specs.declared.options.ColumnPlan.{ColumnPlan}
use Rattle.csv_tables.specs.declared.settings.ColumnSettings.{ColumnSettings}
use Rattle.csv_tables.specs.declared.options.Layout.{Layout}
use Rattle.csv_tables.specs.declared.options.Look.{Look}

-- ---- columns without marks

abbrev any_pointed : List ColumnLimits → Bool
any_pointed limits = list_any (λ (own : ColumnLimits). own.has_points) limits

-- limits have marks if columns have them
map_pointed : (settings : List ColumnSettings) (columns : List ColumnPlan) → any_pointed (map (λ (column : ColumnPlan). limits_of (settings_at settings column.position) (is_some column.points)) columns) ≡ has_points columns
map_pointed settings [] = refl
map_pointed settings (column ∷ columns) = ap (λ (b : Bool). is_some column.points || b) (map_pointed settings columns)

columns_unpointed : (settings : List ColumnSettings) (content : SelectedValue) → has_points content.columns ≡ false → any_pointed (column_limits settings content) ≡ false
columns_unpointed settings content none = by_number content.is_numbered
  where
    own : List ColumnLimits
    own = map (λ (column : ColumnPlan). limits_of (settings_at settings column.position) (is_some column.points)) content.columns

    by_number : (b : Bool) → any_pointed ((if b then no_limits ∷ [] else []) ++ own) ≡ false
    by_number true = map_pointed settings content.columns ∙ none
    by_number false = map_pointed settings content.columns ∙ none

in_unpointed : (settings : List ColumnSettings) (content : SelectedValue) → has_points content.columns ≡ false → any_pointed (limits_in settings content) ≡ false
in_unpointed settings content none = by_test (length settings == 0)
  where
    by_test : (b : Bool) → any_pointed (if b then [] else column_limits settings content) ≡ false
    by_test true = refl
    by_test false = columns_unpointed settings content none

at_unpointed : (limits : List ColumnLimits) (i : ℕ) → any_pointed limits ≡ false → (limits_at limits i).has_points ≡ false
at_unpointed [] i none = refl
at_unpointed (own ∷ limits) zero none = (or_parts own.has_points (any_pointed limits) none).0
at_unpointed (own ∷ limits) (suc i) none = at_unpointed limits i (or_parts own.has_points (any_pointed limits) none).1

all_true : (f : ℕ → Bool) → ((i : ℕ) → f i ≡ true) → (xs : List ℕ) → list_all f xs ≡ true
all_true f each [] = refl
all_true f each (x ∷ xs) = ap₂ (λ (a b : Bool). a && b) (each x) (all_true f each xs)

-- without marks, no text with a mark is wrapped
none_wrapped : (limits : List ColumnLimits) (table : TableValue) → any_pointed limits ≡ false → hold_points limits table ≡ true
none_wrapped limits table none =
    all_true (holds_points limits table)
    (λ i. ap (λ (b : Bool). not b || is_within (limits_at limits i).greatest (column_content_width table i)) (at_unpointed limits i none)) (range_with_len 0 (length limits))

-- a table that would align marks then has as much room
pub room_without_points : (settings : SettingsValue) (look : Look) (content : SelectedValue) → has_points content.columns ≡ false → has_room_by settings look content true ≡ has_room_by settings look content false
room_without_points settings look content none =
    let limits = limits_in settings.columns content in
    let table : TableValue = styled_rows settings look content false in
    let padded : TableValue = with_paddings limits table in
    let room : Bool = has_room_within (reached_limits padded limits) look.width (wanted_in look content) padded in
    let held : hold_points limits padded ≡ true = none_wrapped limits padded (in_unpointed settings.columns content none) in
    ap (λ (t : TableValue). has_room_in limits look.width true (wanted_in look content) (dressed_table content settings.rows t)) (same_table look content none)
    ∙ ap (λ (b : Bool). (b || false) && room) held ∙ sym (ap (λ (b : Bool). (b || true) && room) held)

-- ---- without settings

without_table : (is_expanded : Bool) (look : Look) (content : SelectedValue) (text : Text) → RendersStyledTable no_settings is_expanded look content text → RendersTable is_expanded look content text
without_table true look content text is = record { has_separators = is.has_separators; separators = is.separators; arranged = is.arranged; is_arranged = is.is_arranged; is = is.is }
without_table false look content text is = record { has_separators = is.has_separators; separators = is.separators; arranged = is.arranged; is_arranged = is.is_arranged; is = is.is }

without_content : (is_markdown : Bool) (look : Look) (content : SelectedValue) (text : Text) → RendersStyledContent no_settings is_markdown look content text → RendersContent is_markdown look content text
without_content true look content text is = is
without_content false look content text is = record { is_expanded = is.is_expanded; expansion = is.expansion; drawn = without_table is.is_expanded look content text is.drawn }

-- without settings, an output is the one of `Drawn`
pub without_settings : (counted : Option ℕ) (layout : Layout) (records : List (List Text)) (output : Text) → RendersStyledRecords no_settings counted layout records output → RendersRecords counted layout records output
without_settings counted layout records output is =
    record { content = is.content; is_content = is.is_content; text = is.text; is_text = without_content layout.look.is_markdown layout.look is.content is.text is.is_text; joined = is.joined }

-- the same for records that are counted
pub without_settings_any : (layout : Layout) (records : List (List Text)) (output : Text) → RendersAnyStyledRecords no_settings layout records output → RendersAnyRecords layout records output
without_settings_any layout [] output is = is
without_settings_any layout (r ∷ rest) output is = without_settings (Some (count_below layout.selection (r ∷ rest))) layout (r ∷ rest) output is

-- ---- records that are counted

-- the output for some records, if all are counted
pub any_styled_output : (settings : SettingsValue) (layout : Layout) (records : List (List Text)) (count : ℕ) (output : Text) → (length records ≡ 0 → ⊥) → count ≡ length records - (if layout.selection.has_header then 1 else 0)
    → RendersStyledRecords settings (Some count) layout records output → RendersAnyStyledRecords settings layout records output
any_styled_output settings layout [] count output some counted made = absurd (some refl)
any_styled_output settings layout (r ∷ rest) count output some counted made =
    subst (λ (n : ℕ). RendersStyledRecords settings (Some n) layout (r ∷ rest) output) (counted ∙ below_header layout.selection (r ∷ rest)) made

-- ---- columns in the middle

centered-position : (settings : List ColumnSettings) (column : ColumnPlan) → (centered settings column).position ≡ column.position
centered-position settings column = by_test (settings_at settings column.position).is_centered
  where
    by_test : (b : Bool) → (if b then record column { alignment = Some Center; points = None } else column).position ≡ column.position
    by_test true = refl
    by_test false = refl

centered-least : (settings : List ColumnSettings) (columns : List ColumnPlan) → least_position (map (centered settings) columns) ≡ least_position columns
centered-least settings [] = refl
centered-least settings (column ∷ columns) = ap₂ (λ (n m : ℕ). min n m) (centered-position settings column) (centered-least settings columns)

-- centred columns keep their positions
pub centered-leasts : (settings : List ColumnSettings) (columns : List ColumnPlan) → least_positions (map (centered settings) columns) ≡ least_positions columns
centered-leasts settings [] = refl
centered-leasts settings (column ∷ columns) = ap₂ (λ (n : ℕ) (ns : List ℕ). n ∷ ns) (centered-least settings (column ∷ columns)) (centered-leasts settings columns)
