-- The laws of walks that go on.
use Rattle.std.proofs.Common.{◌≡◌, List, length, refl, sym, subst, ◌∙◌}
use Rattle.sym_terms.specs.Plain.{PlainSum}
use Rattle.term_bank.specs.Terms.{Grows}
use Rattle.bank_values.specs.declared.pred.BankPred.{BankPred}
use Rattle.bank_values.specs.ReadBack.{predicate_at, IsPred}
use Rattle.bank_values.proofs.GrowLemmas.{grows_refl, grows_trans}
use Rattle.bank_values.proofs.StableLemmas.{stable_predicate}
use Rattle.image_steps.specs.declared.walk.Walk.{Walk}
use Rattle.image_steps.specs.Meant.{meaning_of}
use Rattle.image_steps.specs.Walks.{GoesOn, GoesOnAlike, IsNumbered, subject_at}

pub walk_unmoved : {B : Type 0} (terms : B → List PlainSum) (a : Walk B) → GoesOnAlike terms a a
walk_unmoved terms a = record {
  goes_on = record { bank = refl; more = grows_refl (terms a.bank.now); image = refl; externs = refl };
  opened = refl;
}

pub walk_further : {B : Type 0} (terms : B → List PlainSum) (a b c : Walk B) → GoesOn terms a b → GoesOn terms b c → GoesOn terms a c
walk_further terms a b c h k = record {
  bank = k.bank ∙ h.bank;
  more = grows_trans (terms a.bank.now) (terms b.bank.now) (terms c.bank.now) h.more k.more;
  image = k.image ∙ h.image;
  externs = k.externs ∙ h.externs;
}

pub walk_over : {B : Type 0} (terms : B → List PlainSum) (a b c : Walk B) → GoesOnAlike terms a b → GoesOnAlike terms b c → GoesOnAlike terms a c
walk_over terms a b c h k = record { goes_on = walk_further terms a b c h.goes_on k.goes_on; opened = k.opened ∙ h.opened }

-- what reads the same
pub walk_reads : (old new : List PlainSum) (p : BankPred) → Grows old new → IsNumbered old p → predicate_at new p ≡ predicate_at old p
walk_reads old new p g h = stable_predicate.same old new g p h.below

-- numbers stay those of terms
pub walk_has : (old new : List PlainSum) (p : BankPred) → Grows old new → IsNumbered old p → IsNumbered new p
walk_has old new p g h = record {
  below = stable_predicate.more (length old) (length new) g.longer p h.below;
  formed = subst IsPred (sym (walk_reads old new p g h)) h.formed;
}

-- the same is lifted, with the same open jumps, so the step means the same
pub walk_alike : {B : Type 0} (terms : B → List PlainSum) (a b : Walk B) → GoesOn terms a b → b.opened.now.items ≡ a.opened.now.items → meaning_of (subject_at b) ≡ meaning_of (subject_at a)
walk_alike terms a b h e = λ i. meaning_of (record { image = h.image i; externs = h.externs i; opened = e i })
