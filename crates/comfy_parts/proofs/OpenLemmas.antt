-- The sequences that are open after some parts.
use Rattle.std.proofs.Common.{◌≡◌, inl, inr, false, List, [], ◌∷◌, ◌++◌, map, subst, refl, sym, ap, ◌∙◌, append_assoc, append-nil}
use Rattle.std.specs.List.{AllByRecursion}
use Rattle.std.specs.Prelude.{if◌then◌else◌, bytes_eq}
use Rattle.std.proofs.lemmas.Bool.{cond_both}
use Rattle.comfy_parts.specs.Cursor.{sequence_part, visible_part}
use Rattle.comfy_parts.specs.Text.{Text}
use Rattle.comfy_parts.specs.VisibleText.{Part, open_after, opened, opened_by, reset}
use Rattle.comfy_parts.proofs.ScanLemmas.{AreScanned}
use Rattle.comfy_parts.proofs.SequenceLemmas.{IsSequence}
use Rattle.comfy_parts.proofs.ListLemmas.{every-append}

-- the open sequences after two lists of parts
pub opened-append : (ss : List Text) (ps qs : List Part) → opened ss (ps ++ qs) ≡ opened (opened ss ps) qs
opened-append ss [] qs = refl
opened-append ss (p ∷ ps) qs = opened-append (opened_by ss p) ps qs

-- visible bytes open no sequence
pub opened-visible : (ss : List Text) (bs : Text) (ps : List Part) → opened ss (map visible_part bs ++ ps) ≡ opened ss ps
opened-visible ss [] ps = refl
opened-visible ss (b ∷ bs) ps = opened-visible ss bs ps

-- ---- properties of open sequences

-- the sequence isn't the reset
abbrev IsOther : Text → Type 0
IsOther s = bytes_eq reset s ≡ false

-- no open sequence is the reset
others_open : (ss : List Text) (ps : List Part) → AllByRecursion IsOther ss → AllByRecursion IsOther (opened ss ps)
others_open ss [] others = others
others_open ss (p ∷ ps) others =
    others_open (opened_by ss p) ps
    (cond_both p.is_sequence _ _ (AllByRecursion IsOther) (λ _. cond_both (bytes_eq reset p.bytes) _ _ (AllByRecursion IsOther) (λ _. tt) (λ other. every-append IsOther ss (p.bytes ∷ []) others (other, tt))) (λ _. others))

-- sequences other than the reset are all added
all_open : (ss others : List Text) → AllByRecursion IsOther others → opened ss (map sequence_part others) ≡ ss ++ others
all_open ss [] each = sym (append-nil ss)
all_open ss (s ∷ others) each =
    ap (λ b. opened (if b then [] else ss ++ s ∷ []) (map sequence_part others)) each.0 ∙ all_open (ss ++ s ∷ []) others each.1 ∙ append_assoc ss (s ∷ []) others

-- parts can be replaced by the sequences that are open after them
pub open_after-again : (ps qs : List Part) → open_after (map sequence_part (open_after ps) ++ qs) ≡ open_after (ps ++ qs)
open_after-again ps qs =
    opened-append [] (map sequence_part (open_after ps)) qs
    ∙ ap (λ ss. opened ss qs) (all_open [] (open_after ps) (others_open [] ps tt))
    ∙ sym (opened-append [] ps qs)

-- all open sequences are sequences
pub every-opened : (ss : List Text) (ps : List Part) (rest : Text) → AllByRecursion IsSequence ss → AreScanned ps rest → AllByRecursion IsSequence (opened ss ps)
every-opened ss [] rest each scanned = each
every-opened ss (p ∷ ps) rest each (inl part, more) =
    every-opened (opened_by ss p) ps rest
    (subst (λ (x : Part). AllByRecursion IsSequence (opened_by ss x)) (sym part.is)
    (cond_both (bytes_eq reset p.bytes) _ _ (AllByRecursion IsSequence) (λ _. tt) (λ _. every-append IsSequence ss (p.bytes ∷ []) each (part.sequence, tt)))) more
every-opened ss (p ∷ ps) rest each (inr part, more) =
    every-opened (opened_by ss p) ps rest (subst (λ (x : Part). AllByRecursion IsSequence (opened_by ss x)) (sym part.is) each) more
