-- `add_cell` returns the reference that `with_cell_added` returns in a struct, under the same clauses. Assumes `Logic`.
use Rattle.std.proofs.Common.{◌≡◌, List, [], ◌∷◌, refl, sym}
use Rattle.std.proofs.raw_atomic.Walks.{proved_at, leaves}
use mathlib.Core.Path.{subst}
use base.Logic.{SProp, ent, id⊢}
use base.Fml.{ftrue, flft}
use lib.Dec.{T}
use mir.Syntax.{Ty}
use mir.Val.{Val, has_ty, WT}
use contract.Monad.{fact}
use contract.Running.{tables}
use prog.Wp.{WpFn, spot_of}
use types.Kit.{‵, raw, ◌⊛◌, some, later, ◌$◌, ◌∵◌, !, qed, by, move, drop, use1, use2, split, join, pick, await, rewrite}
use types.Run.{enter, of_opd, addr, stop, no_more, and_then, returns}
use types.ByLocal.{alloc_all, pass_all, free_all, look_at, get, through, sets, lands_as, env}
use denote.Laws.{Typed, shows}
use denote.RattleType.{RattleType}
use denote.Ref.{mut_vals}
use denote.Signature.{plain, type_at, mut_ref_to}
use denote.Exit.{yes, no}
use denote.Steps.{nothing, peeks, heard}
use denote.Triple.Call.{calls_at}
use denote.Triple.Clauses.{Lasts, lasts, at_exit}
use denote.Triple.Entry.{Vals}
use denote.Triple.Spec.{triple_of}
use denote.Triple.Table.{framed}
use denote.Triple.Walked.{Stays, walk_of, stay_dropped, Goes-dropped, Goes-spent_ref}
use Rattle.comfy_parts.specs.RowReference.{reference_of}
use Rattle.comfy_parts.specs.contracts.cell.Cell as cell
use Rattle.comfy_parts.specs.contracts.row.Row as row
use Rattle.comfy_parts.proofs.cell.Cell.TheLaws as cell_laws
use Rattle.comfy_parts.specs.contracts.row.Row.add_cell as f
use Rattle.comfy_parts.proofs.row.Row.add_cell.Statement.{statement}
use Rattle.comfy_parts.proofs.row.Row.add_cell.Code as code
use Rattle.comfy_parts.proofs.row.Row.add_cell.Kinds as f_kinds
use Rattle.comfy_parts.specs.contracts.row.Row.with_cell_added as g
use Rattle.comfy_parts.proofs.row.Row.with_cell_added.Met.{met as g_met}
use Rattle.comfy_parts.proofs.row.Row.with_cell_added.Kinds as g_kinds
use Rattle.comfy_parts.specs.contracts.row.into_reference as h
use Rattle.comfy_parts.proofs.row.into_reference.Met.{met as h_met}

abbrev Good : Ty → Val → Type 0
Good τ v = T (has_ty τ v) × WT v

-- one machine value of a type
one : (τ : Ty) (vs : List Val) → Typed (τ ∷ []) vs → (v : Val) × (vs ≡ v ∷ []) × Good τ v
one τ [] t = absurd t
one τ (v ∷ []) t = (v, refl, t.0)
one τ (v ∷ w ∷ vs) t = absurd t.1

abbrev stayed : Stays f.ended.signature.params f.ended.kept
stayed = (stay_dropped (mut_ref_to (0 ∷ []) tt (plain (λ _. row.the_row))) no, (stay_dropped (plain (λ _. cell.the_row)) yes, tt))

pub add_cell_spec : {M : Type 1} → statement M
add_cell_spec {M} 𝓤 𝓛 𝓜 𝓡 wired =
    let c = f.clauses 𝓛 𝓜.mem 𝓡.returns in let 𝓣 = tables 𝓤 𝓛.H 𝓜 𝓡 𝓡.env in
    let fm = framed 𝓤 𝓛.H 𝓜 𝓣 in
    let W = walk_of 𝓛 f.ended stayed c in
    let G = triple_of 𝓛 g.signature (g.spec 𝓛 𝓜.mem 𝓡.returns) in
    let H = triple_of 𝓛 h.signature (h.spec 𝓛 𝓜.mem 𝓡.returns) in
    proved_at 𝓛 f.ended stayed c 𝓜 𝓡 (Goes-spent_ref 𝓛 1 (0 ∷ []) tt (plain (λ _. row.the_row)), (Goes-dropped 𝓛 1 (plain (λ _. cell.the_row)) yes (λ κs x w. refl), tt))
    f.Key.name code.function (code.unfolded 𝓤 𝓛.H 𝓜 𝓡 wired) (λ y are.
    let κs = y.0.0 in let qs = y.0.1 in let a = y.0.3 in let vss = y.0.4 in
    let got = one cell_laws.mir vss.1.0 ((cell_laws.the_field_loose.lawful 𝓛).typed a.1.0 vss.1.0 are.1.0) in
    let us : Vals f.signature κs = (mut_vals a.0, (got.0 ∷ [], tt)) in
    let same : vss ≡ us = λ i. (are.0.0 i, (got.1 i, tt)) in
    let At : Vals f.signature κs → W.Ghost = λ ws. ((κs, qs, y.0.2, a, ws), tt) in
    let Goal : Vals f.signature κs → Type 1 = λ ws. ent 𝓤 (W.pre (At ws)) (WpFn 𝓤 𝓛.H 𝓣.C 𝓣.Λ code.function (W.args (At ws)) (W.post (At ws))) in
    let Held : RattleType = type_at g.signature.result κs in let Lent : RattleType = type_at f.signature.result κs in
    let Ends : Lent.Denot → SProp 𝓤 = λ r. (c κs a).ensures tt r (at_exit f.ended κs a (tt, (tt, tt))) in
    let z : G.Ghost = ((κs, qs, y.0.2, a, us), tt) in
    subst Goal (sym same) (
    qed 𝓛 (raw (G.pre z) ∷ []) ∵ enter ! _ _ _ _ _ $
    alloc_all ! (λ l. pass_all ! refl ((tt, tt), (got.2, tt)) $
    sets ! (addr ! (through ! refl (stop !))) refl (tt, tt) $
    sets ! (of_opd ! (get ! refl)) refl got.2 $
    calls_at ! fm G (g_met 𝓤 𝓛 𝓜 𝓡 (code.calls-comfy_parts::row::Row::with_cell_added 𝓡.env wired)) z
    (and_then ! (get ! refl) (and_then ! (get ! refl) (no_more !))) (λ v.
    use1 𝓛 (later (some (λ (r : Held.Denot). ((‵ (flft κs.0 qs.0) ⊛ ‵ ftrue) ⊛ ‵ (Held.own_val r (v ∷ []))) ⊛
    some (λ (ws : Lasts g.ended κs a). ‵ (lasts g.ended κs a ws) ⊛ raw (Ends (reference_of r)))))) (id⊢ 𝓤 _) $
    await ! tt $ pick ! (λ r. split ! $ split ! $ move ! (1 ∷ []) $ peeks ! Held _ (shows 𝓛 Held) r (v ∷ []) (λ is.
    move ! (2 ∷ []) $ pick ! (λ ws. split ! $ drop ! $
    -- [the ensured formula; the result; the tokens]
    lands_as ! refl refl ((g_kinds.r.laws M 𝓤 𝓛).typed κs r v is [] (spot_of 𝓤 𝓛.H (env code.function.locals l) 3).0 refl) $
    let x : H.Ghost = ((κs, qs, y.0.2, (r, tt), (v ∷ [], tt)), tt) in
    nothing ! $ move ! (2 ∷ 0 ∷ []) $ join ! $ move ! (2 ∷ 0 ∷ []) $ join ! $
    nothing ! $ move ! (1 ∷ 0 ∷ []) $ use2 𝓛 (raw (H.pre x)) (id⊢ 𝓤 _) $
    calls_at ! fm H (h_met 𝓤 𝓛 𝓜 𝓡 (code.calls-comfy_parts::row::into_reference 𝓡.env wired)) x
    (and_then ! (get ! refl) (no_more !)) (λ v'.
    use1 𝓛 (later (some (λ (r' : Lent.Denot). ((‵ (flft κs.0 qs.0) ⊛ ‵ ftrue) ⊛ ‵ (Lent.own_val r' (v' ∷ []))) ⊛
    some (λ (ws' : Lasts h.ended κs (r, tt)). ‵ (lasts h.ended κs (r, tt) ws') ⊛ raw (fact 𝓤 (r' ≡ reference_of r)))))) (id⊢ 𝓤 _) $
    await ! tt $ pick ! (λ r'. split ! $ split ! $ move ! (1 ∷ []) $ peeks ! Lent _ (shows 𝓛 Lent) r' (v' ∷ []) (λ is'.
    move ! (2 ∷ []) $ pick ! (λ ws'. split ! $ drop ! $ heard ! _ (λ e.
    -- [the result; the tokens; the ensured formula]
    lands_as ! refl refl ((f_kinds.r.laws M 𝓤 𝓛).typed κs r' v' is' [] (spot_of 𝓤 𝓛.H (env code.function.locals l) 0).0 refl) $
    rewrite ! 2 (λ (t : Lent.Denot). raw (Ends t)) (sym e) refl $
    returns ! (look_at ! 0 refl) $ free_all ! refl $ nothing ! $ nothing ! $ join ! $ nothing ! $ join ! $
    -- [the rest of the parameters; the result; the tokens; the ensured formula]
    move ! (2 ∷ 0 ∷ 1 ∷ 3 ∷ []) $ by ! (leaves 𝓛 f.ended stayed c (At us) v' r' (tt, (tt, tt)) (tt, (tt, tt)))))))))))))))
