-- Numbers after a sign.
use Rattle.std.proofs.Common.{◌≡◌, true, false, codes, refl}
use Rattle.std.specs.Str.{chars}
use Rattle.ucd_category.proofs.Computing.{ucd_category}
use Rattle.csv_records.specs.Number.{has_indian_groups, is_number}

-- after a character other than a sign there is no number
no_sign : ¬ (is_number (codes "-5") ≡ is_number (codes "x5"))
unfolding chars lib.Utf8.encode ucd_category is_number has_indian_groups
no_sign same = let is : true ≡ false = same in cc is

-- some numbers aren't numbers after a sign
enclosed : is_number (codes "(5)") ≡ true
unfolding chars lib.Utf8.encode ucd_category is_number has_indian_groups
enclosed = refl

enclosed_after_a_sign : is_number (codes "-(5)") ≡ false
unfolding chars lib.Utf8.encode ucd_category is_number has_indian_groups
enclosed_after_a_sign = refl
