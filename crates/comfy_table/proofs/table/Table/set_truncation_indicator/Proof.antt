-- `set_truncation_indicator` returns what `with_indicator_set` returns, under the same clauses. Assumes `Logic`.
use Rattle.std.proofs.Common.{◌≡◌, [], ◌∷◌, refl, sym}
use mir.Syntax.{ty_int, ty_ref, imm, named, w8}
use denote.Plain.{UInt}
use denote.Such.{such_Lawful}
use denote.Slice.{ShrSlice, shr_slice_Lawful, slice_ty}
use denote.Text.{StrRefOf, Utf8}
use denote.Exit.{yes}
use Rattle.comfy_table.proofs.PassedOnWalk.{proved_at, leaves, subst, SProp, ent, id⊢, ftrue, flft, fact, tables, WpFn, spot_of, ‵, raw, ◌⊛◌, some, later, ◌$◌, ◌∵◌, !, qed, by, move, keep, drop, use1, use2, split, join, pick, await, rewrite, enter, addr, stop, no_more, and_then, returns, alloc_all, pass_all, free_all, look_at, get, through, sets, lands_as, env, shows, RattleType, mut_vals, plain, type_at, mut_ref_to, no, nothing, peeks, heard, calls_at, Lasts, lasts, at_exit, Vals, triple_of, framed, Stays, walk_of, stay_dropped, Goes-dropped, Goes-spent_ref, one}
use Rattle.comfy_table.specs.TableReference.{reference_of}
use Rattle.comfy_table.specs.contracts.table.Table as table
use Rattle.comfy_table.specs.contracts.table.Table.set_truncation_indicator as f
use Rattle.comfy_table.proofs.table.Table.set_truncation_indicator.Statement.{statement}
use Rattle.comfy_table.proofs.table.Table.set_truncation_indicator.Code as code
use Rattle.comfy_table.proofs.table.Table.set_truncation_indicator.Kinds as f_kinds
use Rattle.comfy_table.specs.contracts.table.Table.with_indicator_set as g
use Rattle.comfy_table.proofs.table.Table.with_indicator_set.Met.{met as g_met}
use Rattle.comfy_table.proofs.table.Table.with_indicator_set.Kinds as g_kinds
use Rattle.comfy_table.specs.contracts.table.into_reference as h
use Rattle.comfy_table.proofs.table.into_reference.Met.{met as h_met}

pub set_truncation_indicator_spec : {M : Type 1} → statement M
set_truncation_indicator_spec {M} 𝓤 𝓛 𝓜 𝓡 wired =
    let En = f.ended in let c = f.clauses 𝓛 𝓜.mem 𝓡.returns in let 𝓣 = tables 𝓤 𝓛.H 𝓜 𝓡 𝓡.env in
    let fn = code.function in
    let stayed : Stays En.signature.params En.kept = (stay_dropped (mut_ref_to (0 ∷ []) tt (plain (λ _. table.the_row))) no, (stay_dropped (StrRefOf (1 ∷ []) tt) yes, tt)) in
    let fm = framed 𝓤 𝓛.H 𝓜 𝓣 in
    let W = walk_of 𝓛 En stayed c in
    let G = triple_of 𝓛 g.signature (g.spec 𝓛 𝓜.mem 𝓡.returns) in
    let H = triple_of 𝓛 h.signature (h.spec 𝓛 𝓜.mem 𝓡.returns) in
    proved_at 𝓛 En stayed c 𝓜 𝓡 (Goes-spent_ref 𝓛 2 (0 ∷ []) tt (plain (λ _. table.the_row)), (Goes-dropped 𝓛 2 (StrRefOf (1 ∷ []) tt) yes (λ κs x w. refl), tt))
    f.Key.name fn (code.unfolded 𝓤 𝓛.H 𝓜 𝓡 wired) (λ y are.
    let κs = y.0.0 in let qs = y.0.1 in let a = y.0.3 in let vss = y.0.4 in
    let got = one (slice_ty (ty_ref (named 1) imm (ty_int w8))) vss.1.0 ((such_Lawful (ShrSlice (named 1) κs.1.0 (UInt w8)) (λ x. Utf8 x.now) (λ x cs. (tt, tt)) 𝓛 (shr_slice_Lawful 𝓛 (named 1) κs.1.0 (UInt w8))).typed a.1.0 vss.1.0 are.1.0) in
    let us : Vals En.signature κs = (mut_vals a.0, (got.0 ∷ [], tt)) in
    let same : vss ≡ us = λ i. (are.0.0 i, (got.1 i, tt)) in
    let At : Vals En.signature κs → W.Ghost = λ ws. ((κs, qs, y.0.2, a, ws), tt) in
    let Goal : Vals En.signature κs → Type 1 = λ ws. ent 𝓤 (W.pre (At ws)) (WpFn 𝓤 𝓛.H 𝓣.C 𝓣.Λ fn (W.args (At ws)) (W.post (At ws))) in
    let Held : RattleType = type_at g.signature.result κs in let Lent : RattleType = type_at En.signature.result κs in
    let Ends : Lent.Denot → SProp 𝓤 = λ r. (c κs a).ensures tt r (at_exit En κs a (tt, (tt, tt))) in
    let z : G.Ghost = ((κs, qs, y.0.2, a, us), tt) in
    subst Goal (sym same) (
    qed 𝓛 (raw (G.pre z) ∷ []) ∵ enter ! _ _ _ _ _ $
    alloc_all ! (λ l. pass_all ! refl ((tt, tt), (got.2, tt)) $
    sets ! (addr ! (through ! refl (stop !))) refl (tt, tt) $
    calls_at ! fm G (g_met 𝓤 𝓛 𝓜 𝓡 (code.calls-comfy_table::table::Table::with_indicator_set 𝓡.env wired)) z
    (and_then ! (get ! refl) (and_then ! (get ! refl) (no_more !))) (λ v.
    use1 𝓛 (later (some (λ (r : Held.Denot). ((‵ (flft κs.0 qs.0) ⊛ ‵ (flft κs.1.0 qs.1.0) ⊛ ‵ ftrue) ⊛ ‵ (Held.own_val r (v ∷ []))) ⊛
    some (λ (ws : Lasts (g.ended) κs a). ‵ (lasts (g.ended) κs a ws) ⊛ raw (Ends (reference_of r)))))) (id⊢ 𝓤 _) $
    await ! tt $ pick ! (λ r. split ! $ split ! $ move ! (1 ∷ []) $ peeks ! Held _ (shows 𝓛 Held) r (v ∷ []) (λ is.
    move ! (2 ∷ []) $ pick ! (λ ws. split ! $ drop ! $
    -- [what is ensured; the result; the tokens]
    lands_as ! refl refl ((g_kinds.r.laws M 𝓤 𝓛).typed κs r v is [] (spot_of 𝓤 𝓛.H (env fn.locals l) 3).0 refl) $
    move ! (2 ∷ []) $ split ! $
    -- [the token of the reference; the token of the type; what is ensured; the result]
    let x : H.Ghost = (((κs.0, tt), (qs.0, tt), tt, (r, tt), (v ∷ [], tt)), tt) in
    nothing ! $ move ! (4 ∷ 0 ∷ []) $ join ! $ nothing ! $ move ! (2 ∷ 0 ∷ []) $ join ! $ move ! (0 ∷ 1 ∷ []) $ join ! $
    nothing ! $ move ! (1 ∷ 0 ∷ []) $ use2 𝓛 (raw (H.pre x)) (id⊢ 𝓤 _) $
    calls_at ! fm H (h_met 𝓤 𝓛 𝓜 𝓡 (code.calls-comfy_table::table::into_reference 𝓡.env wired)) x
    (and_then ! (get ! refl) (no_more !)) (λ v'.
    use1 𝓛 (later (some (λ (r' : Lent.Denot). ((‵ (flft κs.0 qs.0) ⊛ ‵ ftrue) ⊛ ‵ (Lent.own_val r' (v' ∷ []))) ⊛
    some (λ (ws' : Lasts h.ended (κs.0, tt) (r, tt)). ‵ (lasts h.ended (κs.0, tt) (r, tt) ws') ⊛ raw (fact 𝓤 (r' ≡ reference_of r)))))) (id⊢ 𝓤 _) $
    await ! tt $ pick ! (λ r'. split ! $ split ! $ move ! (1 ∷ []) $ peeks ! Lent _ (shows 𝓛 Lent) r' (v' ∷ []) (λ is'.
    move ! (2 ∷ []) $ pick ! (λ ws'. split ! $ drop ! $ heard ! _ (λ e.
    -- [the result; the token of the reference; the token of the type; what is ensured]
    lands_as ! refl refl ((f_kinds.r.laws M 𝓤 𝓛).typed κs r' v' is' [] (spot_of 𝓤 𝓛.H (env fn.locals l) 0).0 refl) $
    rewrite ! 3 (λ (t : Lent.Denot). raw (Ends t)) (sym e) refl $
    returns ! (look_at ! 0 refl) $ free_all ! refl $ move ! (1 ∷ []) $ split ! $ move ! (0 ∷ 3 ∷ []) $ join ! $
    -- [the tokens; nothing; the result; what is ensured]
    nothing ! $ nothing ! $ join ! $ nothing ! $ join ! $
    keep ! (1 ∷ 0 ∷ 3 ∷ 4 ∷ []) $ by ! (leaves 𝓛 En stayed c (At us) v' r' (tt, (tt, tt)) (tt, (tt, tt)))))))))))))))
