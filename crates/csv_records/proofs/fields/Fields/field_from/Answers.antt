use Rattle.std.proofs.Common.{◌≡◌, ◌<◌, ◌∙◌, ap, arith, length, sym}
use Rattle.csv.proofs.RecordFacts.{cut-length, field-bounds, field-cut}
use Rattle.csv.specs.Records.{Row, fields_of, prev}
use Rattle.csv_records.proofs.fields.Fields.field_from.Goals as goal

pub get-end-requires : goal.get-end-requires
get-end-requires c =
    let count : length (fields_of c.args.self.now) ≡ length c.self.inside.ends = ap (λ r. length (fields_of r)) (sym c.self.view_is) ∙ cut-length 0 c.self.inside.ends c.self.inside.bytes.items in
    omega (arith, count, c.requires.there)

pub slice_bounds-result-count : goal.slice_bounds-result-count
slice_bounds-result-count c =
    let count : length (fields_of c.args.self.now) ≡ length c.self.inside.ends = ap (λ r. length (fields_of r)) (sym c.self.view_is) ∙ cut-length 0 c.self.inside.ends c.self.inside.bytes.items in
    let below : c.args.at < length c.self.inside.ends = omega (arith, count, c.requires.there) in
    let start : c.args.start ≡ prev 0 c.self.inside.ends c.args.at = c.requires.start ∙ ap (λ (r : Row). prev 0 r.ends c.args.at) (sym c.self.view_is) in
    let within = field-bounds 0 c.self.inside.ends (length c.self.inside.bytes.items) c.args.at c.self.invariant below in
    rw (start, c.get-end.ensures) within.0

pub slice_bounds-result-start : goal.slice_bounds-result-start
slice_bounds-result-start c =
    let count : length (fields_of c.args.self.now) ≡ length c.self.inside.ends = ap (λ r. length (fields_of r)) (sym c.self.view_is) ∙ cut-length 0 c.self.inside.ends c.self.inside.bytes.items in
    let below : c.args.at < length c.self.inside.ends = omega (arith, count, c.requires.there) in
    let start : c.args.start ≡ prev 0 c.self.inside.ends c.args.at = c.requires.start ∙ ap (λ (r : Row). prev 0 r.ends c.args.at) (sym c.self.view_is) in
    let within = field-bounds 0 c.self.inside.ends (length c.self.inside.bytes.items) c.args.at c.self.invariant below in
    omega (arith, start, c.get-end.ensures, within.0, within.1, ap length c.as_slice.ensures.value)

pub slice_bounds-result-end : goal.slice_bounds-result-end
slice_bounds-result-end c =
    let count : length (fields_of c.args.self.now) ≡ length c.self.inside.ends = ap (λ r. length (fields_of r)) (sym c.self.view_is) ∙ cut-length 0 c.self.inside.ends c.self.inside.bytes.items in
    let below : c.args.at < length c.self.inside.ends = omega (arith, count, c.requires.there) in
    let start : c.args.start ≡ prev 0 c.self.inside.ends c.args.at = c.requires.start ∙ ap (λ (r : Row). prev 0 r.ends c.args.at) (sym c.self.view_is) in
    let within = field-bounds 0 c.self.inside.ends (length c.self.inside.bytes.items) c.args.at c.self.invariant below in
    omega (arith, start, c.get-end.ensures, within.0, within.1, ap length c.as_slice.ensures.value)

pub returns-clause-value : goal.returns-clause-value
returns-clause-value c =
    let count : length (fields_of c.args.self.now) ≡ length c.self.inside.ends = ap (λ r. length (fields_of r)) (sym c.self.view_is) ∙ cut-length 0 c.self.inside.ends c.self.inside.bytes.items in
    let below : c.args.at < length c.self.inside.ends = omega (arith, count, c.requires.there) in
    let start : c.args.start ≡ prev 0 c.self.inside.ends c.args.at = c.requires.start ∙ ap (λ (r : Row). prev 0 r.ends c.args.at) (sym c.self.view_is) in
    rw (← c.self.view_is, c.as_slice.ensures.value, start, c.get-end.ensures) (field-cut 0 c.self.inside.ends c.self.inside.bytes.items c.args.at below)
