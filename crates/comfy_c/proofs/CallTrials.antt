-- Examples of buffers after a call, of the arguments that bytes hold, and of the settings of rows.
use Rattle.std.proofs.Common.{◌≡◌, ℕ, [], ◌∷◌, ◌++◌, None, Option, Some, codes, false, refl, true}
use Rattle.std.proofs.lemmas.List.Elements.{All-cons, All-nil}
use Rattle.comfy_parts.specs.Text.{HasNo}
use Rattle.comfy_parts.specs.declared.style.attribute.Attribute.TheVariants.{Bold}
use Rattle.comfy_parts.specs.declared.style.cell.CellAlignment.{CellAlignment}
use Rattle.comfy_parts.specs.declared.style.cell.CellAlignment.TheVariants.{Left, Right}
use Rattle.comfy_parts.specs.declared.style.color.Color.TheVariants.{AnsiValue}
use Rattle.comfy_c.specs.Calls.{IsCommandLine, with_front}
use Rattle.comfy_c.specs.Looks.{look_settings, rows_settings, unset_row}
use Rattle.comfy_c.specs.RowColumns.{settings_for}
use Rattle.comfy_c.specs.declared.cells_numbers.ColorNumbers.{ColorNumbers}
use Rattle.comfy_c.specs.declared.cells_numbers.LookNumbers.{LookNumbers}
use Rattle.csv_tables.specs.Settings.{CellSettingsValue}

-- ---- the buffer

room_is_left : with_front (codes "ab") (codes "1234") ≡ codes "ab34"
room_is_left = refl

room_is_filled : with_front (codes "abcd") (codes "1234") ≡ codes "abcd"
room_is_filled = refl

room_is_missing : with_front (codes "abcde") (codes "1234") ≡ codes "1234"
room_is_missing = refl

no_text : with_front [] (codes "1234") ≡ codes "1234"
no_text = refl

-- ---- arguments

both_ended : IsCommandLine (codes "-w" ++ 0 ∷ codes "60" ++ 0 ∷ []) (codes "csvtable" ∷ codes "-w" ∷ codes "60" ∷ [])
both_ended =
    record {
      arguments = codes "-w" ∷ codes "60" ∷ [];
      after_name = refl;
      hold_no_end = All-cons (HasNo 0) (codes "-w") (codes "60" ∷ []) refl (All-cons (HasNo 0) (codes "60") [] refl (All-nil (HasNo 0)));
      are_all = refl;
    }

last_is_open : IsCommandLine (codes "-w" ++ 0 ∷ codes "60") (codes "csvtable" ∷ codes "-w" ∷ codes "60" ∷ [])
last_is_open =
    record {
      arguments = codes "-w" ∷ codes "60" ∷ [];
      after_name = refl;
      hold_no_end = All-cons (HasNo 0) (codes "-w") (codes "60" ∷ []) refl (All-cons (HasNo 0) (codes "60") [] refl (All-nil (HasNo 0)));
      are_all = refl;
    }

empty_argument : IsCommandLine (0 ∷ []) (codes "csvtable" ∷ [] ∷ [])
empty_argument = record { arguments = [] ∷ []; after_name = refl; hold_no_end = All-cons (HasNo 0) [] [] refl (All-nil (HasNo 0)); are_all = refl }

no_arguments : IsCommandLine [] (codes "csvtable" ∷ [])
no_arguments = record { arguments = []; after_name = refl; hold_no_end = All-nil (HasNo 0); are_all = refl }

-- ---- settings of rows

abbrev no_color : ColorNumbers
no_color = record { kind = 0; number = 0; red = 0; green = 0; blue = 0 }

-- a look with only an alignment
abbrev at : ℕ → LookNumbers
at side = record { alignment = side; attributes = 0; foreground = no_color; background = no_color }

-- the settings for this look
abbrev own : Option CellAlignment → CellSettingsValue
own side = record { alignment = side; foreground = None; background = None; attributes = [] }

-- the first row is the header; the second one has a text and a height
below_a_header : rows_settings true (2 ∷ 1 ∷ []) (at 0 ∷ at 1 ∷ at 2 ∷ []) (0 ∷ 7 ∷ [])
    ≡ (record { max_height = None; cells = own None ∷ own (Some Left) ∷ [] }) ∷ (record { max_height = Some 7; cells = own (Some Right) ∷ [] }) ∷ []
below_a_header = refl

-- without a header its settings are unset
without_header : rows_settings false (1 ∷ []) [] (3 ∷ []) ≡ unset_row ∷ (record { max_height = Some 3; cells = [] }) ∷ []
without_header = refl

-- without looks and heights nothing is set
without_looks : rows_settings false (1 ∷ []) [] [] ≡ []
without_looks = refl

bold_and_red : look_settings (record { alignment = 9; attributes = 2; foreground = record no_color { kind = 2; number = 9 }; background = record no_color { kind = 4 } })
    ≡ record { alignment = None; foreground = Some (AnsiValue 9); background = None; attributes = Bold ∷ [] }
bold_and_red = refl

-- a centred column of at least three terminal columns
middle : settings_for ((record { left_padding = 1; right_padding = 1; side = 4; least = 3; greatest = 0 }) ∷ []) ≡ (record { padding = (1, 1); least = Some 3; greatest = None; is_centered = true }) ∷ []
middle = refl

sides_alone : settings_for ((record { left_padding = 1; right_padding = 1; side = 2; least = 0; greatest = 0 }) ∷ []) ≡ []
sides_alone = refl
