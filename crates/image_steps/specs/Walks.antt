-- What a walk through an executable has, and how it goes on.
use Rattle.std.specs.Prelude.{◌≡◌, List, length}
use Rattle.sym_terms.specs.Plain.{PlainSum}
use Rattle.term_bank.specs.Terms.{Grows}
use Rattle.bank_values.specs.declared.pred.BankPred.{BankPred}
use Rattle.bank_values.specs.ReadBack.{predicate_at, IsBelow, IsPred}
use Rattle.site_lines.specs.Subject.{Subject}
use Rattle.image_steps.specs.declared.walk.Walk.{Walk}

-- what is lifted
abbrev pub subject_at : {B : Type 0} → Walk B → Subject
subject_at w = record { image = w.image.now; externs = w.externs.now; opened = w.opened.now.items }

-- its numbers are those of terms, and read back it is a predicate
pub record IsNumbered (terms : List PlainSum) (p : BankPred) : Type 0 where
  pub below : IsBelow (length terms) p
  pub formed : IsPred (predicate_at terms p)

-- the same bank with more terms, over the same executable
pub record GoesOn {B : Type 0} (terms : B → List PlainSum) (old new : Walk B) : Type 0 where
  pub bank : new.bank.ghost_name ≡ old.bank.ghost_name
  pub more : Grows (terms old.bank.now) (terms new.bank.now)
  pub image : new.image.now ≡ old.image.now
  pub externs : new.externs.now ≡ old.externs.now

-- and with the same open jumps
pub record GoesOnAlike {B : Type 0} (terms : B → List PlainSum) (old new : Walk B) : Type 0 where
  pub goes_on : GoesOn terms old new
  pub opened : new.opened.now.items ≡ old.opened.now.items
