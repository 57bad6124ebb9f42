-- `add_rows` returns what `with_rows_added` returns, under the same clauses. Assumes `Logic`.
use Rattle.std.proofs.Common.{[], ◌∷◌, refl}
use mir.MapTy.{inst_fn}
use mir.Syntax.{a_type, dcons, dnil}
use denote.Exit.{no}
use denote.Param.{param, bounded}
use denote.Param.Laws.{param_laws}
use denote.Signature.{plain}
use denote.Triple.Walked.{Goes-dropped}
use Rattle.comfy_table.proofs.PassedOnWalk.{hands_on_one, type_of}
use Rattle.comfy_table.specs.contracts.table.Table.add_rows as f
use Rattle.comfy_table.proofs.table.Table.add_rows.Statement.{statement}
use Rattle.comfy_table.proofs.table.Table.add_rows.Code as code
use Rattle.comfy_table.proofs.table.Table.add_rows.Kinds as f_kinds
use Rattle.comfy_table.proofs.table.Table.with_rows_added.Met.{met as g_met}
use Rattle.comfy_table.proofs.table.Table.with_rows_added.Kinds as g_kinds
use Rattle.comfy_table.proofs.table.into_reference.Met.{met as h_met}

pub add_rows_spec : {M : Type 1} → statement M
add_rows_spec {M} 𝓤 𝓛 𝓜 𝓡 wired I J K LI LJ LK gi d1 gn d2 gt d3 gr d4 d5 d6 m1 m2 m3 m4 m5 m6 =
    let fn = inst_fn (bounded (a_type ∷ a_type ∷ a_type ∷ []) (I, (J, (K, tt))) (dcons d1 (dcons d2 (dcons d3 (dcons d4 (dcons d5 (dcons d6 dnil))))))) code.function in
    hands_on_one 𝓛 𝓜 𝓡 3 (plain (λ _. param 0 I)) no (f.clauses I J K gi d1 gn d2 gt d3 gr d4 d5 d6 𝓛 𝓜.mem 𝓡.returns)
    (Goes-dropped 𝓛 4 (plain (λ _. param 0 I)) no (λ κs x w. refl)) fn _
    (λ κs. ((param_laws 0 I LI).lawful 𝓛).typed) (λ b o. ((tt, tt), (tt, tt)))
    (λ κs r v is. ((g_kinds.r I J K LI LJ LK).laws M 𝓤 𝓛).typed κs r v is [] (type_of fn.locals 3) refl)
    (λ κs r v is. ((f_kinds.r I J K LI LJ LK).laws M 𝓤 𝓛).typed κs r v is [] (type_of fn.locals 0) refl)
    (code.unfolded 𝓤 𝓛.H 𝓜 𝓡 wired (I, (J, (K, tt))) d1 d2 d3 d4 d5 d6)
    (g_met 𝓤 𝓛 𝓜 𝓡 (code.calls-comfy_table::table::Table::with_rows_added 𝓡.env wired) I J K LI LJ LK gi d1 gn d2 gt d3 gr d4 d5 d6 m1 m2 m3 m4 m5 m6)
    (h_met 𝓤 𝓛 𝓜 𝓡 (code.calls-comfy_table::table::into_reference 𝓡.env wired))
