-- The output for small inputs.
use Rattle.std.proofs.Common.{◌≡◌, ℕ, List, [], ◌∷◌, refl, Option, Some, None, lit<, map}
use Rattle.std.specs.Prelude.{codes}
use Prim.Native.String.{String}
use Rattle.comfy_parts.proofs.Computing.{wrapping}
use Rattle.comfy_parts.specs.declared.style.table.ContentArrangement.TheVariants.{Disabled, Dynamic}
use Rattle.comfy_parts.specs.Presets.{ascii_full, ascii_markdown}
use Rattle.comfy_parts.specs.Text.{Text}
use Rattle.comfy_parts.specs.declared.style.table.ContentArrangement.{ContentArrangement}
use Rattle.comfy_parts.specs.declared.style.table_style.TableStyle.{TableStyle}
use Rattle.comfy_run.specs.Input.{input_table}
use Rattle.comfy_table.specs.Arrangement.{IsDrawingOf}
use Rattle.comfy_table.specs.Drawing.{terminated_text_of}
use Rattle.test_definitions.proofs.TrialTables.{at_widths, by_steps}

-- the lines of a drawing of the input's table
abbrev IsWrittenFor : Option ℕ → ContentArrangement → TableStyle → Text → Text → Type 0
IsWrittenFor width arrangement style text output =
    (drawn : List Text) × IsDrawingOf (input_table width arrangement style text) drawn × (output ≡ terminated_text_of drawn)

empty_input : IsWrittenFor None Disabled ascii_full [] (0x2B ∷ 0x2B ∷ 0x0A ∷ 0x2B ∷ 0x2B ∷ 0x0A ∷ [])
unfolding wrapping
empty_input = (codes "++" ∷ codes "++" ∷ [], ([], at_widths refl refl refl, refl), refl)

no_room : IsWrittenFor (Some 0) Dynamic ascii_full (codes "ab\tcd\n") (codes "+---+---+\n| a | c |\n| b | d |\n+=======+\n+---+---+\n")
unfolding wrapping
no_room = (
  codes "+---+---+" ∷ codes "| a | c |" ∷ codes "| b | d |" ∷ codes "+=======+" ∷ codes "+---+---+" ∷ [],
  (
    1 ∷ 1 ∷ [],
    at_widths refl refl (by_steps (record { lower = []; level = None; shrunk = [] }) refl (lit< tt) refl refl),
    refl,
  ),
  refl,
)

breaks_and_carriage_returns : IsWrittenFor None Disabled ascii_full (codes "a\r\nb\u{b}c\td") (codes "+---+---+\n| a |   |\n+=======+\n| b | d |\n| c |   |\n+---+---+\n")
unfolding wrapping
breaks_and_carriage_returns = (
  codes "+---+---+" ∷ codes "| a |   |" ∷ codes "+=======+" ∷ codes "| b | d |" ∷ codes "| c |   |" ∷ codes "+---+---+" ∷ [],
  (1 ∷ 1 ∷ [], at_widths refl refl refl, refl),
  refl,
)

cells_with_breaks : IsWrittenFor None Disabled ascii_full
    (codes "Header1\tHeader2\tHeader3\nThis is a text\tThis is another text\tThis is the third text\nThis is another text\tNow\u{b}add some\u{b}multi line stuff\tThis is awesome\n")
    (terminated_text_of (map (λ (l : String). codes l)
    ("+----------------------+----------------------+------------------------+"
    ∷ "| Header1              | Header2              | Header3                |"
    ∷ "+======================================================================+"
    ∷ "| This is a text       | This is another text | This is the third text |"
    ∷ "|----------------------+----------------------+------------------------|"
    ∷ "| This is another text | Now                  | This is awesome        |"
    ∷ "|                      | add some             |                        |"
    ∷ "|                      | multi line stuff     |                        |"
    ∷ "+----------------------+----------------------+------------------------+" ∷ [])))
unfolding wrapping
cells_with_breaks = (
  map (λ (l : String). codes l)
      ("+----------------------+----------------------+------------------------+"
      ∷ "| Header1              | Header2              | Header3                |"
      ∷ "+======================================================================+"
      ∷ "| This is a text       | This is another text | This is the third text |"
      ∷ "|----------------------+----------------------+------------------------|"
      ∷ "| This is another text | Now                  | This is awesome        |"
      ∷ "|                      | add some             |                        |"
      ∷ "|                      | multi line stuff     |                        |"
      ∷ "+----------------------+----------------------+------------------------+" ∷ []),
  (20 ∷ 20 ∷ 22 ∷ [], at_widths refl refl refl, refl),
  refl,
)

markdown : IsWrittenFor None Disabled ascii_markdown
    (codes "Hello\tthere\na\tb\n") (codes "| Hello | there |\n|-------|-------|\n| a     | b     |\n")
unfolding wrapping
markdown = (
  codes "| Hello | there |" ∷ codes "|-------|-------|" ∷ codes "| a     | b     |" ∷ [],
  (5 ∷ 5 ∷ [], at_widths refl refl refl, refl),
  refl,
)
