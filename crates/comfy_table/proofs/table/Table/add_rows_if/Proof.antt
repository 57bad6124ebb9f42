-- `add_rows_if` returns what `with_rows_added_if` returns, under the same clauses. Assumes `Logic`.
use Rattle.std.proofs.Common.{[], ◌∷◌, refl}
use mir.MapTy.{inst_fn}
use mir.Syntax.{a_type, dcons, dnil}
use denote.Exit.{no}
use denote.Param.{param, bounded}
use denote.Param.Laws.{param_laws}
use denote.Signature.{plain}
use denote.Triple.Walked.{Goes-dropped}
use Rattle.comfy_table.proofs.PassedOnWalk.{hands_on_two, type_of}
use Rattle.comfy_table.specs.contracts.table.Table.add_rows_if as f
use Rattle.comfy_table.proofs.table.Table.add_rows_if.Statement.{statement}
use Rattle.comfy_table.proofs.table.Table.add_rows_if.Code as code
use Rattle.comfy_table.proofs.table.Table.add_rows_if.Kinds as f_kinds
use Rattle.comfy_table.proofs.table.Table.with_rows_added_if.Met.{met as g_met}
use Rattle.comfy_table.proofs.table.Table.with_rows_added_if.Kinds as g_kinds
use Rattle.comfy_table.proofs.table.into_reference.Met.{met as h_met}

pub add_rows_if_spec : {M : Type 1} → statement M
add_rows_if_spec {M} 𝓤 𝓛 𝓜 𝓡 wired P I J K LP LI LJ LK gp d1 d2 d3 gi d4 gn d5 gt d6 gr d7 d8 d9 d10 d11 m1 m2 m3 m4 m5 m6 m7 m8 m9 m10 m11 =
    let fn = inst_fn (bounded (a_type ∷ a_type ∷ a_type ∷ a_type ∷ []) (P, (I, (J, (K, tt)))) (dcons d1 (dcons d2 (dcons d3 (dcons d4 (dcons d5 (dcons d6 (dcons d7 (dcons d8 (dcons d9 (dcons d10 (dcons d11 dnil)))))))))))) code.function in
    hands_on_two 𝓛 𝓜 𝓡 4 (plain (λ _. param 0 P)) (plain (λ _. param 1 I)) no (f.clauses P I J K gp d1 d2 d3 gi d4 gn d5 gt d6 gr d7 d8 d9 d10 d11 𝓛 𝓜.mem 𝓡.returns)
    (Goes-dropped 𝓛 5 (plain (λ _. param 0 P)) no (λ κs x w. refl)) (Goes-dropped 𝓛 5 (plain (λ _. param 1 I)) no (λ κs x w. refl)) fn _
    (λ κs. ((param_laws 0 P LP).lawful 𝓛).typed) (λ κs. ((param_laws 1 I LI).lawful 𝓛).typed) (λ b o. ((tt, tt), (tt, tt)))
    (λ κs r v is. ((g_kinds.r P I J K LP LI LJ LK).laws M 𝓤 𝓛).typed κs r v is [] (type_of fn.locals 4) refl)
    (λ κs r v is. ((f_kinds.r P I J K LP LI LJ LK).laws M 𝓤 𝓛).typed κs r v is [] (type_of fn.locals 0) refl)
    (code.unfolded 𝓤 𝓛.H 𝓜 𝓡 wired (P, (I, (J, (K, tt)))) d1 d2 d3 d4 d5 d6 d7 d8 d9 d10 d11)
    (g_met 𝓤 𝓛 𝓜 𝓡 (code.calls-comfy_table::table::Table::with_rows_added_if 𝓡.env wired) P I J K LP LI LJ LK gp d1 d2 d3 gi d4 gn d5 gt d6 gr d7 d8 d9 d10 d11 m1 m2 m3 m4 m5 m6 m7 m8 m9 m10 m11)
    (h_met 𝓤 𝓛 𝓜 𝓡 (code.calls-comfy_table::table::into_reference 𝓡.env wired))
