-- The proof of a function that calls another one with its parameters, and then `into_reference` with its result,
-- under the same clauses. Assumes `Logic`.
use Rattle.std.proofs.Common.{◌≡◌, ℕ, zero, suc, List, [], ◌∷◌, refl, sym}
pub use Rattle.std.proofs.raw_atomic.Walks.{proved_at, leaves}
pub use mathlib.Core.Path.{subst}
use seplogic.Ra.Ura.{Ura}
pub use base.Logic.{SProp, ent, id⊢}
pub use base.Fml.{ftrue, flft}
use lib.Dec.{T}
use mir.Syntax.{Ty, Fn, Callee, Local, local, value_local, ty_unit, seq, assign, call, return, place, deref, addr_of, rv_opd, copy}
use mir.Val.{Val, vptr, has_ty, WT}
use contract.Lifetimes.{Lfts, toks}
pub use contract.Monad.{fact}
pub use contract.Running.{tables, Running, MachineTables}
use prog.Model.{Model}
pub use prog.Wp.{WpFn, spot_of, Closed}
use types.Logic.{Logic}
pub use types.Kit.{‵, raw, ◌⊛◌, some, later, ◌$◌, ◌∵◌, !, qed, by, move, keep, drop, use1, use2, split, join, pick, await, rewrite}
pub use types.Run.{enter, addr, stop, no_more, and_then, returns, of_opd}
pub use types.ByLocal.{alloc_all, pass_all, free_all, look_at, get, through, sets, lands_as, env}
pub use denote.Exit.{no, Kept}
pub use denote.Laws.{shows, Is, Typed}
pub use denote.RattleType.{RattleType}
pub use denote.Ref.{mut_vals}
pub use denote.Signature.{plain, type_at, mut_ref_to, Slot, types_at}
pub use denote.Steps.{nothing, peeks, heard}
pub use denote.Triple.Call.{calls_at}
pub use denote.Triple.Clauses.{Lasts, lasts, at_exit, Clauses, Ended, closing}
pub use denote.Triple.Entry.{Vals}
pub use denote.Triple.Spec.{triple_of, Meets}
pub use denote.Triple.Table.{framed}
pub use denote.Triple.Walked.{Stays, walk_of, stay_dropped, Goes-spent_ref, Goes-dropped, Goes}
use Rattle.comfy_table.specs.TableReference.{reference_of}
use Rattle.comfy_table.specs.contracts.table.Table as table
use Rattle.comfy_table.specs.contracts.table.into_reference as h

-- a machine value of the type
abbrev pub Good : Ty → Val → Type 0
Good τ v = T (has_ty τ v) × WT v

-- one machine value of a type
pub one : (τ : Ty) (vs : List Val) → Typed (τ ∷ []) vs → (v : Val) × (vs ≡ v ∷ []) × Good τ v
one τ [] t = absurd t
one τ (v ∷ []) t = (v, refl, t.0)
one τ (v ∷ w ∷ vs) t = absurd t.1

-- the type of local i
abbrev pub type_of : List Local → ℕ → Ty
type_of [] i = ty_unit
type_of (local τ home ∷ ls) zero = τ
type_of (local τ home ∷ ls) (suc i) = type_of ls i

abbrev of_type : Fn → ℕ → Local
of_type fn i = local (type_of fn.locals i) value_local

-- the type of the first parameter
abbrev first : List RattleType → RattleType
first [] = table.the_row
first (R ∷ Rs) = R

-- the parameter of `into_reference`, which is also the result of the first function
abbrev pub held : (m : ℕ) → Slot (suc m)
held m = plain (λ κs. first (types_at h.signature.params (κs.0, tt)))

abbrev pub lent : (m : ℕ) → Slot (suc m)
lent m = plain (λ κs. type_at h.signature.result (κs.0, tt))

-- a table and one parameter more
abbrev pub with_one : (m : ℕ) (P : Slot (suc m)) → Kept → Slot (suc m) → Ended
with_one m P k result = record {
  signature = record { lifetimes = suc m; outlives = []; params = mut_ref_to (0 ∷ []) tt (plain (λ _. table.the_row)) ∷ P ∷ []; result = result };
  kept = (no, (k, tt));
}

-- the code of such a function, with the types of its locals
abbrev pub calls_one : (of_table : Ty) (called given : Callee) → Fn → Fn
calls_one of_table called given fn = record fn {
  params = 2;
  locals = of_type fn 0 ∷ of_type fn 1 ∷ of_type fn 2 ∷ of_type fn 3 ∷ of_type fn 4 ∷ of_type fn 2 ∷ [];
  body = seq (assign (place 4 []) (addr_of (place 1 (deref of_table ∷ [])))) (seq (assign (place 5 []) (rv_opd (copy (place 2 []))))
      (seq (call called (copy (place 4 []) ∷ copy (place 5 []) ∷ []) (place 3 [])) (seq (call given (copy (place 3 []) ∷ []) (place 0 [])) return)));
}

-- a table and two parameters more
abbrev pub with_two : (m : ℕ) (P Q : Slot (suc m)) → Kept → Slot (suc m) → Ended
with_two m P Q k result = record {
  signature = record { lifetimes = suc m; outlives = []; params = mut_ref_to (0 ∷ []) tt (plain (λ _. table.the_row)) ∷ P ∷ Q ∷ []; result = result };
  kept = (no, (k, (k, tt)));
}

abbrev pub calls_two : (of_table : Ty) (called given : Callee) → Fn → Fn
calls_two of_table called given fn = record fn {
  params = 3;
  locals = of_type fn 0 ∷ of_type fn 1 ∷ of_type fn 2 ∷ of_type fn 3 ∷ of_type fn 4 ∷ of_type fn 5 ∷ of_type fn 2 ∷ of_type fn 3 ∷ [];
  body = seq (assign (place 5 []) (addr_of (place 1 (deref of_table ∷ [])))) (seq (assign (place 6 []) (rv_opd (copy (place 2 [])))) (seq (assign (place 7 []) (rv_opd (copy (place 3 []))))
      (seq (call called (copy (place 5 []) ∷ copy (place 6 []) ∷ copy (place 7 []) ∷ []) (place 4 [])) (seq (call given (copy (place 4 []) ∷ []) (place 0 [])) return))));
}

module _ {M : Type 1} {𝓤 : Ura M} (𝓛 : Logic 𝓤) (𝓜 : Model 𝓤 𝓛.H) (𝓡 : Running 𝓤 𝓛.H 𝓜) where
  abbrev 𝓣 : MachineTables 𝓤 𝓛.H 𝓜
  𝓣 = tables 𝓤 𝓛.H 𝓜 𝓡 𝓡.env

  -- the clauses of the function that is called first
  abbrev pub over_one : (m : ℕ) (P : Slot (suc m)) (k : Kept) → Clauses 𝓤 (with_one m P k (lent m)) → Clauses 𝓤 (with_one m P k (held m))
  over_one m P k c κs a = record { ghost = (c κs a).ghost; requires = (c κs a).requires; ensures = λ g r e. (c κs a).ensures g (reference_of r) e }

  pub hands_on_one : (m : ℕ) (P : Slot (suc m)) (k : Kept) (c : Clauses 𝓤 (with_one m P k (lent m))) → Goes 𝓛 (suc m) P k (stay_dropped P k)
      → {key called given : Callee} (fn : Fn) (of_table : Ty)
      → ((κs : Lfts (suc m)) (x : (P.row κs).Denot) (vs : List Val) → Is (P.row κs) x vs → Typed (type_of fn.locals 2 ∷ []) vs)
      → ((b o : ℕ) → Good (type_of fn.locals 1) (vptr b o) × Good (type_of fn.locals 4) (vptr b o))
      → ((κs : Lfts (suc m)) (r : (type_at (held m) κs).Denot) (v : Val) → Is (type_at (held m) κs) r (v ∷ []) → Good (type_of fn.locals 3) v)
      → ((κs : Lfts (suc m)) (r : (type_at (lent m) κs).Denot) (v : Val) → Is (type_at (lent m) κs) r (v ∷ []) → Good (type_of fn.locals 0) v)
      → Closed 𝓤 𝓛.H 𝓣.C 𝓣.Λ key (calls_one of_table called given fn)
      → Meets 𝓛 (with_one m P k (held m)).signature (𝓣.C called) (closing 𝓛 (with_one m P k (held m)) (over_one m P k c))
      → Meets 𝓛 h.signature (𝓣.C given) (h.spec 𝓛 𝓜.mem 𝓡.returns)
      → Meets 𝓛 (with_one m P k (lent m)).signature (𝓣.C key) (closing 𝓛 (with_one m P k (lent m)) c)
  hands_on_one m P k c goes {key} {called} {given} fn of_table typed self_fits held_fits lent_fits closed called_met given_met =
      let En = with_one m P k (lent m) in let whole = calls_one of_table called given fn in
      let stayed : Stays En.signature.params En.kept = (stay_dropped (mut_ref_to {n = suc m} (0 ∷ []) tt (plain (λ _. table.the_row))) no, (stay_dropped P k, tt)) in
      let fm = framed 𝓤 𝓛.H 𝓜 𝓣 in
      let W = walk_of 𝓛 En stayed c in
      let G = triple_of 𝓛 (with_one m P k (held m)).signature (closing 𝓛 (with_one m P k (held m)) (over_one m P k c)) in
      let H = triple_of 𝓛 h.signature (h.spec 𝓛 𝓜.mem 𝓡.returns) in
      proved_at 𝓛 En stayed c 𝓜 𝓡 (Goes-spent_ref 𝓛 (suc m) (0 ∷ []) tt (plain (λ _. table.the_row)), (goes, tt)) key whole closed (λ y are.
      let κs = y.0.0 in let qs = y.0.1 in let a = y.0.3 in let vss = y.0.4 in
      let got = one (type_of fn.locals 2) vss.1.0 (typed κs a.1.0 vss.1.0 are.1.0) in
      let us : Vals En.signature κs = (mut_vals a.0, (got.0 ∷ [], tt)) in
      let same : vss ≡ us = λ i. (are.0.0 i, (got.1 i, tt)) in
      let At : Vals En.signature κs → W.Ghost = λ ws. ((κs, qs, y.0.2, a, ws), y.1) in
      let Goal : Vals En.signature κs → Type 1 = λ ws. ent 𝓤 (W.pre (At ws)) (WpFn 𝓤 𝓛.H 𝓣.C 𝓣.Λ whole (W.args (At ws)) (W.post (At ws))) in
      let Held : RattleType = type_at (held m) κs in let Lent : RattleType = type_at (lent m) κs in
      let Ends : Lasts En κs a → Lent.Denot → SProp 𝓤 = λ ws r. (c κs a).ensures y.1 r (at_exit En κs a ws) in
      let z : G.Ghost = ((κs, qs, y.0.2, a, us), y.1) in
      subst Goal (sym same) (
      qed 𝓛 (raw (G.pre z) ∷ []) ∵ enter ! _ _ _ _ _ $
      alloc_all ! (λ l. pass_all ! refl ((self_fits a.0.ref_ptr.0 a.0.ref_ptr.1).0, (got.2, tt)) $
      sets ! (addr ! (through ! refl (stop !))) refl (self_fits a.0.ref_ptr.0 a.0.ref_ptr.1).1 $
      sets ! (of_opd ! (get ! refl)) refl got.2 $
      calls_at ! fm G called_met z
      (and_then ! (get ! refl) (and_then ! (get ! refl) (no_more !))) (λ v.
      use1 𝓛 (later (some (λ (r : Held.Denot). ((‵ (flft κs.0 qs.0) ⊛ raw (toks 𝓛 m κs.1 qs.1)) ⊛ ‵ (Held.own_val r (v ∷ []))) ⊛
      some (λ (ws : Lasts En κs a). ‵ (lasts En κs a ws) ⊛ raw (Ends ws (reference_of r)))))) (id⊢ 𝓤 _) $
      await ! tt $ pick ! (λ r. split ! $ split ! $ move ! (1 ∷ []) $ peeks ! Held _ (shows 𝓛 Held) r (v ∷ []) (λ is.
      move ! (2 ∷ []) $ pick ! (λ ws. split ! $ drop ! $
      -- [what is ensured; the result; the tokens]
      lands_as ! refl refl (held_fits κs r v is) $
      move ! (2 ∷ []) $ split ! $
      -- [the token of the reference; the tokens of the types; what is ensured; the result]
      let x : H.Ghost = (((κs.0, tt), (qs.0, tt), tt, (r, tt), (v ∷ [], tt)), tt) in
      nothing ! $ move ! (4 ∷ 0 ∷ []) $ join ! $ nothing ! $ move ! (2 ∷ 0 ∷ []) $ join ! $ move ! (0 ∷ 1 ∷ []) $ join ! $
      nothing ! $ move ! (1 ∷ 0 ∷ []) $ use2 𝓛 (raw (H.pre x)) (id⊢ 𝓤 _) $
      calls_at ! fm H given_met x
      (and_then ! (get ! refl) (no_more !)) (λ v'.
      use1 𝓛 (later (some (λ (r' : Lent.Denot). ((‵ (flft κs.0 qs.0) ⊛ ‵ ftrue) ⊛ ‵ (Lent.own_val r' (v' ∷ []))) ⊛
      some (λ (ws' : Lasts h.ended (κs.0, tt) (r, tt)). ‵ (lasts h.ended (κs.0, tt) (r, tt) ws') ⊛ raw (fact 𝓤 (r' ≡ reference_of r)))))) (id⊢ 𝓤 _) $
      await ! tt $ pick ! (λ r'. split ! $ split ! $ move ! (1 ∷ []) $ peeks ! Lent _ (shows 𝓛 Lent) r' (v' ∷ []) (λ is'.
      move ! (2 ∷ []) $ pick ! (λ ws'. split ! $ drop ! $ heard ! _ (λ e.
      -- [the result; the token of the reference; the tokens of the types; what is ensured]
      lands_as ! refl refl (lent_fits κs r' v' is') $
      rewrite ! 3 (λ (t : Lent.Denot). raw (Ends ws t)) (sym e) refl $
      returns ! (look_at ! 0 refl) $ free_all ! refl $ move ! (1 ∷ []) $ split ! $ move ! (0 ∷ 3 ∷ []) $ join ! $
      -- [the tokens; nothing; the result; what is ensured]
      nothing ! $ nothing ! $ join ! $ nothing ! $ join ! $
      keep ! (1 ∷ 0 ∷ 3 ∷ 4 ∷ []) $ by ! (leaves 𝓛 En stayed c (At us) v' r' ws (tt, (tt, tt)))))))))))))))

  abbrev pub over_two : (m : ℕ) (P Q : Slot (suc m)) (k : Kept) → Clauses 𝓤 (with_two m P Q k (lent m)) → Clauses 𝓤 (with_two m P Q k (held m))
  over_two m P Q k c κs a = record { ghost = (c κs a).ghost; requires = (c κs a).requires; ensures = λ g r e. (c κs a).ensures g (reference_of r) e }

  pub hands_on_two : (m : ℕ) (P Q : Slot (suc m)) (k : Kept) (c : Clauses 𝓤 (with_two m P Q k (lent m))) → Goes 𝓛 (suc m) P k (stay_dropped P k) → Goes 𝓛 (suc m) Q k (stay_dropped Q k)
      → {key called given : Callee} (fn : Fn) (of_table : Ty)
      → ((κs : Lfts (suc m)) (x : (P.row κs).Denot) (vs : List Val) → Is (P.row κs) x vs → Typed (type_of fn.locals 2 ∷ []) vs)
      → ((κs : Lfts (suc m)) (x : (Q.row κs).Denot) (vs : List Val) → Is (Q.row κs) x vs → Typed (type_of fn.locals 3 ∷ []) vs)
      → ((b o : ℕ) → Good (type_of fn.locals 1) (vptr b o) × Good (type_of fn.locals 5) (vptr b o))
      → ((κs : Lfts (suc m)) (r : (type_at (held m) κs).Denot) (v : Val) → Is (type_at (held m) κs) r (v ∷ []) → Good (type_of fn.locals 4) v)
      → ((κs : Lfts (suc m)) (r : (type_at (lent m) κs).Denot) (v : Val) → Is (type_at (lent m) κs) r (v ∷ []) → Good (type_of fn.locals 0) v)
      → Closed 𝓤 𝓛.H 𝓣.C 𝓣.Λ key (calls_two of_table called given fn)
      → Meets 𝓛 (with_two m P Q k (held m)).signature (𝓣.C called) (closing 𝓛 (with_two m P Q k (held m)) (over_two m P Q k c))
      → Meets 𝓛 h.signature (𝓣.C given) (h.spec 𝓛 𝓜.mem 𝓡.returns)
      → Meets 𝓛 (with_two m P Q k (lent m)).signature (𝓣.C key) (closing 𝓛 (with_two m P Q k (lent m)) c)
  hands_on_two m P Q k c goes goes' {key} {called} {given} fn of_table typed typed' self_fits held_fits lent_fits closed called_met given_met =
      let En = with_two m P Q k (lent m) in let whole = calls_two of_table called given fn in
      let stayed : Stays En.signature.params En.kept = (stay_dropped (mut_ref_to {n = suc m} (0 ∷ []) tt (plain (λ _. table.the_row))) no, (stay_dropped P k, (stay_dropped Q k, tt))) in
      let fm = framed 𝓤 𝓛.H 𝓜 𝓣 in
      let W = walk_of 𝓛 En stayed c in
      let G = triple_of 𝓛 (with_two m P Q k (held m)).signature (closing 𝓛 (with_two m P Q k (held m)) (over_two m P Q k c)) in
      let H = triple_of 𝓛 h.signature (h.spec 𝓛 𝓜.mem 𝓡.returns) in
      proved_at 𝓛 En stayed c 𝓜 𝓡 (Goes-spent_ref 𝓛 (suc m) (0 ∷ []) tt (plain (λ _. table.the_row)), (goes, (goes', tt))) key whole closed (λ y are.
      let κs = y.0.0 in let qs = y.0.1 in let a = y.0.3 in let vss = y.0.4 in
      let got = one (type_of fn.locals 2) vss.1.0 (typed κs a.1.0 vss.1.0 are.1.0) in let got' = one (type_of fn.locals 3) vss.1.1.0 (typed' κs a.1.1.0 vss.1.1.0 are.1.1.0) in
      let us : Vals En.signature κs = (mut_vals a.0, (got.0 ∷ [], (got'.0 ∷ [], tt))) in
      let same : vss ≡ us = λ i. (are.0.0 i, (got.1 i, (got'.1 i, tt))) in
      let At : Vals En.signature κs → W.Ghost = λ ws. ((κs, qs, y.0.2, a, ws), y.1) in
      let Goal : Vals En.signature κs → Type 1 = λ ws. ent 𝓤 (W.pre (At ws)) (WpFn 𝓤 𝓛.H 𝓣.C 𝓣.Λ whole (W.args (At ws)) (W.post (At ws))) in
      let Held : RattleType = type_at (held m) κs in let Lent : RattleType = type_at (lent m) κs in
      let Ends : Lasts En κs a → Lent.Denot → SProp 𝓤 = λ ws r. (c κs a).ensures y.1 r (at_exit En κs a ws) in
      let z : G.Ghost = ((κs, qs, y.0.2, a, us), y.1) in
      subst Goal (sym same) (
      qed 𝓛 (raw (G.pre z) ∷ []) ∵ enter ! _ _ _ _ _ $
      alloc_all ! (λ l. pass_all ! refl ((self_fits a.0.ref_ptr.0 a.0.ref_ptr.1).0, (got.2, (got'.2, tt))) $
      sets ! (addr ! (through ! refl (stop !))) refl (self_fits a.0.ref_ptr.0 a.0.ref_ptr.1).1 $
      sets ! (of_opd ! (get ! refl)) refl got.2 $ sets ! (of_opd ! (get ! refl)) refl got'.2 $
      calls_at ! fm G called_met z
      (and_then ! (get ! refl) (and_then ! (get ! refl) (and_then ! (get ! refl) (no_more !)))) (λ v.
      use1 𝓛 (later (some (λ (r : Held.Denot). ((‵ (flft κs.0 qs.0) ⊛ raw (toks 𝓛 m κs.1 qs.1)) ⊛ ‵ (Held.own_val r (v ∷ []))) ⊛
      some (λ (ws : Lasts En κs a). ‵ (lasts En κs a ws) ⊛ raw (Ends ws (reference_of r)))))) (id⊢ 𝓤 _) $
      await ! tt $ pick ! (λ r. split ! $ split ! $ move ! (1 ∷ []) $ peeks ! Held _ (shows 𝓛 Held) r (v ∷ []) (λ is.
      move ! (2 ∷ []) $ pick ! (λ ws. split ! $ drop ! $
      -- [what is ensured; the result; the tokens]
      lands_as ! refl refl (held_fits κs r v is) $
      move ! (2 ∷ []) $ split ! $
      -- [the token of the reference; the tokens of the types; what is ensured; the result]
      let x : H.Ghost = (((κs.0, tt), (qs.0, tt), tt, (r, tt), (v ∷ [], tt)), tt) in
      nothing ! $ move ! (4 ∷ 0 ∷ []) $ join ! $ nothing ! $ move ! (2 ∷ 0 ∷ []) $ join ! $ move ! (0 ∷ 1 ∷ []) $ join ! $
      nothing ! $ move ! (1 ∷ 0 ∷ []) $ use2 𝓛 (raw (H.pre x)) (id⊢ 𝓤 _) $
      calls_at ! fm H given_met x
      (and_then ! (get ! refl) (no_more !)) (λ v'.
      use1 𝓛 (later (some (λ (r' : Lent.Denot). ((‵ (flft κs.0 qs.0) ⊛ ‵ ftrue) ⊛ ‵ (Lent.own_val r' (v' ∷ []))) ⊛
      some (λ (ws' : Lasts h.ended (κs.0, tt) (r, tt)). ‵ (lasts h.ended (κs.0, tt) (r, tt) ws') ⊛ raw (fact 𝓤 (r' ≡ reference_of r)))))) (id⊢ 𝓤 _) $
      await ! tt $ pick ! (λ r'. split ! $ split ! $ move ! (1 ∷ []) $ peeks ! Lent _ (shows 𝓛 Lent) r' (v' ∷ []) (λ is'.
      move ! (2 ∷ []) $ pick ! (λ ws'. split ! $ drop ! $ heard ! _ (λ e.
      -- [the result; the token of the reference; the tokens of the types; what is ensured]
      lands_as ! refl refl (lent_fits κs r' v' is') $
      rewrite ! 3 (λ (t : Lent.Denot). raw (Ends ws t)) (sym e) refl $
      returns ! (look_at ! 0 refl) $ free_all ! refl $ move ! (1 ∷ []) $ split ! $ move ! (0 ∷ 3 ∷ []) $ join ! $
      -- [the tokens; nothing; the result; what is ensured]
      nothing ! $ nothing ! $ join ! $ nothing ! $ join ! $ nothing ! $ join ! $
      keep ! (1 ∷ 0 ∷ 3 ∷ 4 ∷ []) $ by ! (leaves 𝓛 En stayed c (At us) v' r' ws (tt, (tt, (tt, tt))))))))))))))))
