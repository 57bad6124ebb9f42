-- A loop over the list of presets.
use Rattle.std.proofs.Common.{◌≡◌, ℕ, zero, suc, ◌+◌, ◌<◌, ◌≤◌, true, false, List, [], ◌∷◌, Bor, Some, None, drop, length, map, option_map, slice_index_or, refl, ap, subst, arith}
use Rattle.std.specs.Prelude.{bytes_eq, find, if◌then◌else◌, Option}
use Rattle.comfy_parts.specs.Presets.{beside}
use Rattle.comfy_parts.specs.Text.{Text}
use Rattle.comfy_parts.specs.declared.style.table_style.TableStyle.{TableStyle}

-- an entry of the list in the code
abbrev pub Entry : Type 0
Entry = Bor Text × TableStyle

-- the entry as the definition has it
abbrev pub as_measured : Entry → Text × TableStyle
as_measured entry = (entry.0.now, entry.1)

-- the style next to a name in the list from a position on
abbrev pub from : List Entry → ℕ → Text → Option TableStyle
from entries i word = beside (map as_measured (drop i entries)) word

pub found : (entries : List Entry) (i : ℕ) (default : Entry) (word : Text) → i < length entries → bytes_eq word (slice_index_or entries i default).0.now ≡ true → from entries i word ≡ Some (slice_index_or entries i default).1
found [] i default word below is = absurd (omega (arith, below))
found (e ∷ es) zero default word below is = ap (λ b. option_map (λ (x : Text × TableStyle). x.1) (if b then Some (as_measured e) else find (λ (x : Text × TableStyle). bytes_eq word x.0) (map as_measured es))) is
found (e ∷ es) (suc i) default word below is = found es i default word (omega (arith, below)) is

past-next : (entries : List Entry) (i : ℕ) (default : Entry) (word : Text) → i < length entries → bytes_eq word (slice_index_or entries i default).0.now ≡ false → from entries i word ≡ from entries (suc i) word
past-next [] i default word below is = absurd (omega (arith, below))
past-next (e ∷ es) zero default word below is = ap (λ b. option_map (λ (x : Text × TableStyle). x.1) (if b then Some (as_measured e) else find (λ (x : Text × TableStyle). bytes_eq word x.0) (map as_measured es))) is
past-next (e ∷ es) (suc i) default word below is = past-next es i default word (omega (arith, below)) is

pub passed : (entries : List Entry) (i : ℕ) (default : Entry) (word : Text) → i < length entries → bytes_eq word (slice_index_or entries i default).0.now ≡ false → from entries i word ≡ from entries (i + 1) word
passed entries i default word below is =
    let next : suc i ≡ i + 1 = omega arith in
    subst (λ j. from entries i word ≡ from entries j word) next (past-next entries i default word below is)

pub ended : (entries : List Entry) (i : ℕ) (word : Text) → length entries ≤ i → from entries i word ≡ None
ended [] zero word past = refl
ended [] (suc i) word past = refl
ended (e ∷ es) zero word past = absurd (omega (arith, past))
ended (e ∷ es) (suc i) word past = ended es i word (omega (arith, past))
