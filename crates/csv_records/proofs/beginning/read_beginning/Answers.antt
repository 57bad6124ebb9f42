use Rattle.std.proofs.Common.{◌≡◌, ◌≢◌, ◌<◌, ap, length, count_by, sym, subst, true, ◌∙◌, rules, arith, string_bytes}
use Rattle.memchr.proofs.lemmas.CallerLemmas.{length-places}
use Rattle.memchr.specs.Find.{is_byte}
use Rattle.csv_records.proofs.NoneEnoughLemmas.{none_more, none_recorded}
use Rattle.csv_records.specs.Beginning.{EndsWithLine, is_line_feed, whole_lines}
use Rattle.csv_records.specs.Delimiter.{shows_delimiter}
use Rattle.csv_records.specs.Lines.{below_lines}
use Rattle.csv_records.specs.Encoding.{encoding_of}
use Rattle.csv_records.specs.First.{AreFirst}
use Rattle.csv_records.specs.declared.encoding.Encoding.TheVariants.{Utf16}
use Rattle.csv_records.specs.Reading.{AreRecordsIn, IsDecodedBy}
use Rattle.csv_records.proofs.beginning.read_beginning.Goals as goal
use Rattle.csv_records.proofs.beginning.read_beginning.Goals.{then-count-most-via-then-count-most, then-count-most-via-else-count-most+then-eq, then-count-most-via-else-count-most+else-eq+then-not-ends_with_line}

pub returns-then-count-most-clause-none : goal.returns-then-count-most-clause-none
returns-then-count-most-clause-none c = λ all enough.
    let options = c.args.options.now in
    let lines = whole_lines c.args.read.now in
    elim c.then-count-most.branch [
      | then-count-most-via-then-count-most w ↦
          let counted : c.count.result ≡ count_by is_line_feed lines = c.count.ensures ∙ ap length c.memchr_iter.ensures.value ∙ length-places (is_byte 0x0A) c.whole_lines-lines.result.now ∙ ap (count_by is_line_feed) c.whole_lines-lines.ensures in
          omega (arith, counted, w.if-count-most.true, enough.feeds)
      | then-count-most-via-else-count-most+then-eq w ↦ enough.no_utf16 (let is : encoding_of options.encoding lines ≡ Utf16 = search rules in is)
      | then-count-most-via-else-count-most+else-eq+then-not-ends_with_line w ↦
          let below : w.below_lines.result.now ≡ below_lines options.skip lines = w.below_lines.ensures.below ∙ ap (below_lines options.skip) c.whole_lines-lines.ensures in
          let ends : w.ends_with_line.result ≡ true = w.ends_with_line.ensures.1 (subst EndsWithLine (sym below) enough.ends) in
          cc (ends, w.if-not-ends_with_line.true)
    ]

pub returns-in_default-2-clause-none : goal.returns-in_default-2-clause-none
returns-in_default-2-clause-none c =
    let text = string_bytes c.in-Some.text in
    let is_text : IsDecodedBy c.args.options.now (whole_lines c.args.read.now) text = search rules in
    none_recorded c.args.options.now c.args.most (whole_lines c.args.read.now) text is_text (rw (c.as_str-2.ensures.value, c.in_default-2.is) at c.in_ok-first.ensures.none)

pub returns-then-first-most-clause-none : goal.returns-then-first-most-clause-none
returns-then-first-most-clause-none c =
    let text = string_bytes c.in-Some.text in
    let is_text : IsDecodedBy c.args.options.now (whole_lines c.args.read.now) text = search rules in
    let first : AreFirst (AreRecordsIn c.args.options.now text) c.args.most c.in-Some-2.first = rw (c.as_str-2.ensures.value, c.in-Some-2.is) at c.in_ok-first.ensures.some in
    none_more c.args.options.now c.args.most (whole_lines c.args.read.now) text is_text first.all first.are (omega (arith, first.count, c.if-first-most.true))

pub returns-clause-some : goal.returns-clause-some
returns-clause-some c =
    let options = c.args.options.now in
    let lines = whole_lines c.args.read.now in
    let text = string_bytes c.in-Some.text in
    let is_text : IsDecodedBy options lines text = search rules in
    let first : AreFirst (AreRecordsIn options text) c.args.most c.in-Some-2.first = rw (c.as_str-2.ensures.value, c.in-Some-2.is) at c.in_ok-first.ensures.some in
    let no_utf16 : encoding_of options.encoding lines ≢ Utf16 = search rules in
    let counted : c.count.result ≡ count_by is_line_feed lines = c.count.ensures ∙ ap length c.memchr_iter.ensures.value ∙ length-places (is_byte 0x0A) c.whole_lines-lines.result.now ∙ ap (count_by is_line_feed) c.whole_lines-lines.ensures in
    let feeds : c.args.most < count_by is_line_feed lines = omega (arith, counted, c.if-count-most.false) in
    let ends : EndsWithLine (below_lines options.skip lines) = search rules in
    let shows : shows_delimiter options.delimiter options.has_quotes text ≡ true = search rules in
    let more : c.args.most < length first.all = omega (arith, first.count, c.if-first-most.false) in
    record {
      are_first =
          record {
            records = first.all;
            is_enough = record { no_utf16 = no_utf16; feeds = feeds; text = text; is_text = is_text; ends = ends; shows = shows; are_records = first.are; more = more };
            are_first = first.records;
          };
      count = first.count;
      longer = rw (c.as_str-2.ensures.value, c.in-Some-2.is) at c.in_ok-first.ensures.longer;
    }
