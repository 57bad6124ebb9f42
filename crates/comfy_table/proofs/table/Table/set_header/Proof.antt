-- `set_header` returns what `with_header_set` returns, under the same clauses. Assumes `Logic`.
use Rattle.std.proofs.Common.{[], ◌∷◌, refl}
use mir.MapTy.{inst_fn}
use mir.Syntax.{a_type, dcons, dnil}
use denote.Exit.{no}
use denote.Param.{param, bounded}
use denote.Param.Laws.{param_laws}
use denote.Signature.{plain}
use denote.Triple.Walked.{Goes-dropped}
use Rattle.comfy_table.proofs.PassedOnWalk.{hands_on_one, type_of}
use Rattle.comfy_table.specs.contracts.table.Table.set_header as f
use Rattle.comfy_table.proofs.table.Table.set_header.Statement.{statement}
use Rattle.comfy_table.proofs.table.Table.set_header.Code as code
use Rattle.comfy_table.proofs.table.Table.set_header.Kinds as f_kinds
use Rattle.comfy_table.proofs.table.Table.with_header_set.Met.{met as g_met}
use Rattle.comfy_table.proofs.table.Table.with_header_set.Kinds as g_kinds
use Rattle.comfy_table.proofs.table.into_reference.Met.{met as h_met}

pub set_header_spec : {M : Type 1} → statement M
set_header_spec {M} 𝓤 𝓛 𝓜 𝓡 wired X L gr d1 d2 m1 m2 =
    let fn = inst_fn (bounded (a_type ∷ []) (X, tt) (dcons d1 (dcons d2 dnil))) code.function in
    hands_on_one 𝓛 𝓜 𝓡 1 (plain (λ _. param 0 X)) no (f.clauses X gr d1 d2 𝓛 𝓜.mem 𝓡.returns)
    (Goes-dropped 𝓛 2 (plain (λ _. param 0 X)) no (λ κs x w. refl)) fn _
    (λ κs. ((param_laws 0 X L).lawful 𝓛).typed) (λ b o. ((tt, tt), (tt, tt)))
    (λ κs r v is. ((g_kinds.r X L).laws M 𝓤 𝓛).typed κs r v is [] (type_of fn.locals 3) refl)
    (λ κs r v is. ((f_kinds.r X L).laws M 𝓤 𝓛).typed κs r v is [] (type_of fn.locals 0) refl)
    (code.unfolded 𝓤 𝓛.H 𝓜 𝓡 wired (X, tt) d1 d2)
    (g_met 𝓤 𝓛 𝓜 𝓡 (code.calls-comfy_table::table::Table::with_header_set 𝓡.env wired) X L gr d1 d2 m1 m2)
    (h_met 𝓤 𝓛 𝓜 𝓡 (code.calls-comfy_table::table::into_reference 𝓡.env wired))
