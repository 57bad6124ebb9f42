use Rattle.std.proofs.Common.{◌≡◌, ◌+◌, ◌-◌, ◌++◌, ◌∷◌, [], ℕ, ap, map, sym, ◌∙◌, arith, rules}
use Rattle.std.proofs.lemmas.List.{map-id}
use Rattle.std.proofs.lemmas.List.FromFn.{map-range_with_len_more}
use Rattle.std.specs.List.{range_with_len}
use Rattle.csv_command.proofs.columns.positions_between.Goals as goal

pub loop-position-preserved : goal.loop-position-preserved
loop-position-preserved c =
    let start = c.args.start in
    let at = c.loop-position.position in
    let pushed : c.push.new.self.items ≡ c.loop-position.positions.items ++ at ∷ [] = search rules in
    let count : (at - start) + 1 ≡ (at + 1) - start = omega arith in
    pushed ∙ ap (λ (t : _). t ++ at ∷ []) c.loop-position.invariant ∙ sym (map-range_with_len_more (λ (p : ℕ). p) start (at - start) at (omega arith)) ∙ ap (λ (n : ℕ). map (λ (p : ℕ). p) (range_with_len start n)) count

pub returns : goal.returns
returns c =
    let all : c.loop-position.position ≡ c.args.end = omega arith in
    c.loop-position.invariant ∙ map-id _ ∙ ap (λ (n : ℕ). range_with_len c.args.start (n - c.args.start)) all
