use Rattle.std.proofs.Common.{List, map}
use Rattle.std.proofs.lemmas.Result.{IfErr-weaker, IfOk-weaker}
use Rattle.std.proofs.lemmas.Str.{IsUtf8-string_bytes}
use Rattle.std.specs.Borrow.{Bor}
use Rattle.comfy_parts.specs.Text.{Text}
use Rattle.comfy_c.specs.Calls.{IsCommandLine}
use Rattle.comfy_c.proofs.CallLemmas.{refused_for}
use Rattle.comfy_c.proofs.csv_draw.drawing_for.Goals as goal

pub returns-clause-drawn : goal.returns-clause-drawn
returns-clause-drawn c =
    let line : List Text = map (λ (argument : Bor Text). argument.now) c.as_slice.result.now in
    let are : IsCommandLine c.args.text.now line = rw c.as_slice.ensures.value c.in_ok-arguments.ensures in
    IfOk-weaker c.render_csv.result _ _
    (λ drawing is. (IsUtf8-string_bytes drawing, record { is_text = c.utf8.text; arguments = line; are_arguments = are; is_so = is })) c.render_csv.ensures.drawn

pub returns-clause-refused : goal.returns-clause-refused
returns-clause-refused c =
    let line : List Text = map (λ (argument : Bor Text). argument.now) c.as_slice.result.now in
    let are : IsCommandLine c.args.text.now line = rw c.as_slice.ensures.value c.in_ok-arguments.ensures in
    IfErr-weaker c.render_csv.result _ _ (λ refusal is. refused_for c.args.text.now c.args.input.now line c.utf8.text are refusal is) c.render_csv.ensures.refused
