use Rattle.std.proofs.Common.{◌≡◌, ◌++◌, ◌∙◌, string_bytes}
use Rattle.std.proofs.lemmas.List.{length-map}
use Rattle.std.proofs.lemmas.List.Folds.{flat_map-map}
use Rattle.std.specs.Hash as fed
use Rattle.std.specs.List.{fold}
use Rattle.comfy_parts.specs.Comparisons.{alignment_hash, attribute_hash, color_hash}
use Rattle.comfy_parts.proofs.cell.CellHash.hash.Goals as goal

pub returns : goal.returns
returns g c =
    let write = g.H.Hasher.write in
    let start = c.args.state.now in
    let now = c.args.self.now in
    let view = c.self.view_is in
    let lines = c.text_lines.result.now in
    let text_lines : c.hash.new.state ≡ fold write start (fed.slice fed.str now.text_lines) =
    rw (← c.text_lines.ensures.value) (rw (flat_map-map fed.str string_bytes lines, length-map lines string_bytes) c.hash.ensures) in
    let delimiter = c.hash-2.ensures ∙ (λ i. fold write c.hash.new.state (fed.option fed.char (view i).delimiter)) in
    let alignment = c.hash-3.ensures ∙ (λ i. fold write c.hash-2.new.state (fed.option alignment_hash (view i).alignment)) in
    let foreground = c.hash-4.ensures ∙ (λ i. fold write c.hash-3.new.state (fed.option color_hash (view i).foreground)) in
    let background = c.hash-5.ensures ∙ (λ i. fold write c.hash-4.new.state (fed.option color_hash (view i).background)) in
    let attributes = c.hash-6.ensures ∙ (λ i. fold write c.hash-5.new.state (fed.slice attribute_hash (c.attributes.ensures i))) in
    let first = fed.slice fed.str now.text_lines in
    let second = fed.option fed.char now.delimiter in
    let third = fed.option alignment_hash now.alignment in
    let fourth = fed.option color_hash now.foreground in
    let fifth = fed.option color_hash now.background in
    let sixth = fed.slice attribute_hash now.attributes in
    let up_to_second = fed.fed_then write start c.hash.new.state c.hash-2.new.state first second text_lines delimiter in
    let up_to_third = fed.fed_then write start c.hash-2.new.state c.hash-3.new.state (first ++ second) third up_to_second alignment in
    let up_to_fourth = fed.fed_then write start c.hash-3.new.state c.hash-4.new.state (first ++ second ++ third) fourth up_to_third foreground in
    let up_to_fifth = fed.fed_then write start c.hash-4.new.state c.hash-5.new.state (first ++ second ++ third ++ fourth) fifth up_to_fourth background in
    fed.fed_then write start c.hash-5.new.state c.hash-6.new.state (first ++ second ++ third ++ fourth ++ fifth) sixth up_to_fifth attributes
