use Rattle.std.proofs.Common.{All, ◌≡◌, ◌++◌, ◌∷◌, ◌∙◌, [], Bor, List, Some, arith, inl, map, refl, sym, take, ℕ}
use Rattle.csv.specs.Reading.{Reached, strip_bom}
use Rattle.csv.specs.Records.{AllText, Row, fields_of, partial_of}
use Rattle.csv.specs.declared.parser.State.TheVariants as st
use Rattle.csv.proofs.ReadFacts.{rows-more}
use Rattle.csv_records.proofs.RecordLemmas.{both_text, is_text, more_text, splits}
use Rattle.csv_records.proofs.FirstLemmas.{all_of_few, none_kept, one_kept}
use Rattle.std.proofs.lemmas.List.{length-append}
use Rattle.csv_records.specs.Input.{config_for}
use Rattle.csv_records.specs.Places.{IsWithin, fields_at}
use Rattle.csv_records.specs.declared.records.Place.{Place}
use Rattle.csv_records.proofs.records.first_records_of.Goals as goal
use Rattle.csv_records.proofs.records.first_records_of.Goals.{then-count-most+in_ok-push_record, else-count-most}

pub loop-count-init : goal.loop-count-init
unfolding Reached AllText
loop-count-init c =
    let started = c.reader_of-reader.ensures in
    rw (c.new-places.ensures.items, c.new-fields.ensures.fields) (
      started.trim,
      started.ready,
      started.config,
      strip_bom c.args.text.now,
      started.source,
      [],
      (sym started.state, refl),
      (λ k d h. absurd (omega arith)),
      refl,
      sym (all_of_few c.args.most [] (omega arith)),
      (λ k d h. absurd (omega arith)),
      tt,
      c.new-fields.ensures.whole,
    )

pub loop-count-preserved : goal.loop-count-preserved
loop-count-preserved c =
    let inv = c.loop-count.invariant in
    let more = fields_of c.read_byte_record.new.row in
    let rows = map (fields_at (fields_of c.loop-count.fields)) c.loop-count.places.items in
    let read = rw c.if-not-is_found.false at (c.in-Ok.ensures.reads inv.0 inv.1) in
    let cfg = config_for c.args.delimiter c.args.has_quotes in
    let rem = λ (s : Bor (List ℕ)). Some s.now in
    let texts : AllText more = is_text rem c.loop-count.reader c.read_byte_record.new.self c.args.delimiter c.args.has_quotes c.args.text.now inv.3 inv.5 more inv.2 inv.4 inv.6 read c.utf8.text (c.in_ok-is_split.ensures.whole c.if-branch.false) in
    let Kept = λ (now : Row) (places : List Place). (map (fields_at (fields_of now)) places ≡ take c.args.most (inv.5 ++ more ∷ [])) × All (IsWithin (fields_of now)) places × AllText (fields_of now) × (partial_of now ≡ []) in
    let kept : Kept c.if-count-most.fields c.if-count-most.places.items =
    elim c.if-count-most.branch [
      | then-count-most+in_ok-push_record w ↦
          let pushed = w.in_ok-push_record.ensures in
          rw (w.fields-is, w.places-is) (one_kept c.args.most inv.5 more rows _ (omega (arith, w.if-count-most.true, inv.8)) inv.9 pushed.records, pushed.within, rw pushed.fields (both_text (fields_of c.loop-count.fields) more inv.11 texts), pushed.whole)
      | else-count-most w ↦ rw (w.fields-is, w.places-is) (none_kept c.args.most inv.5 more rows _ (omega (arith, w.if-count-most.false, inv.8)) inv.9 refl, inv.10, inv.11, inv.12)
    ] in
    let m = rows-more rem c.loop-count.reader c.read_byte_record.new.self more cfg st.StartRecord (strip_bom c.args.text.now) inv.3 inv.5 inv.2 inv.4 inv.6 read in (
      read.3 ∙ inv.0,
      inl (c.in-Ok.ensures.ready inv.0),
      read.2 ∙ inv.2,
      m.0,
      m.1,
      inv.5 ++ more ∷ [],
      m.2,
      more_text inv.5 more inv.7 texts,
      omega (arith, length-append inv.5 (more ∷ []), inv.8),
      kept.0,
      kept.1,
      kept.2,
      kept.3,
    )

pub returns-then-branch-clause-refused : goal.returns-then-branch-clause-refused
returns-then-branch-clause-refused c =
    let inv = c.loop-count.invariant in
    let more = fields_of c.read_byte_record.new.row in
    let read = rw c.if-not-is_found.false at (c.in-Ok.ensures.reads inv.0 inv.1) in
    let split = c.in_ok-is_split.ensures.split c.if-branch.true in
    splits (λ (s : Bor (List ℕ)). Some s.now) c.loop-count.reader c.read_byte_record.new.self c.args.delimiter c.args.has_quotes c.args.text.now inv.3 inv.5 more inv.2 inv.4 inv.6 read inv.7 split.0 split.1
