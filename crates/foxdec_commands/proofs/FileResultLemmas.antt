-- Files that are taken as values one after another, and the ending that they come to.
use Rattle.std.proofs.Common.{◌≡◌, inl, inr, ℕ, ◌<◌, zero, suc, List, [], ◌∷◌, length, refl, sym, subst, Some, None, arith, lit<}
use Rattle.std.specs.declared.option.Option.{Option}
use Rattle.wire_io.specs.Shelf.{IsAll, IsLonger}
use Rattle.foxdec_commands.specs.FileRefusal.{limit}
use Rattle.foxdec_commands.specs.Ending.{Ending}
use Rattle.foxdec_commands.specs.Outcome.{Tells, Allows, Takes}
use Rattle.foxdec_commands.specs.FileResult.{IsOnlyOf, IsOnlyRefused, IsTaken, IsRefused}

-- bytes that are all of a file refuse it
pub IsRefused-all : {X : Type 0} (Form : List ℕ → X → Type 0) (Refused : List ℕ → Ending → Type 0) (known : Option (List ℕ)) (bytes : List ℕ) → IsAll bytes known
    → (e : Ending) → IsOnlyRefused Form Refused bytes e → IsRefused Form Refused known e
IsRefused-all Form Refused known bytes all e refused = (bytes, all, refused)

-- there is a list of more elements than any number
longer_than : (n : ℕ) → (bytes : List ℕ) × (n < length bytes)
longer_than zero = (0 ∷ [], lit< tt)
longer_than (suc n) = let rest = longer_than n in (0 ∷ rest.0, omega (arith, rest.1))

-- what holds of bytes over the limit holds of a file over it
pub too_long : (P : List ℕ → Type 0) (known : Option (List ℕ)) → ((bytes : List ℕ) → limit < length bytes → P bytes) → IsLonger known limit → Allows known P
too_long P None over longer = let long = longer_than limit in (long.0, λ file is. absurd (cc is), over long.0 long.1)
too_long P (Some bytes) over longer = (bytes, λ file is. cc is, over bytes (longer bytes refl))

-- known bytes are those that are allowed
told_same : (P : List ℕ → Type 0) (known : Option (List ℕ)) (file : List ℕ) → known ≡ Some file → (bytes : List ℕ) → IsAll bytes known → P bytes → P file
told_same P known file is bytes all holds = subst P (all file is) holds

-- a first file refused
module _ {X : Type 0} (Form : List ℕ → X → Type 0) (Refused : List ℕ → Ending → Type 0) (known : Option (List ℕ)) (e : Ending) (no : IsRefused Form Refused known e) where
  pub refused_allowed : (Next : X → Type 0) → Allows known (Takes Form (λ bytes. Refused bytes e) Next)
  refused_allowed Next = (no.0, no.1, inl no.2.refused)

  refused_at : (Next : X → Type 0) (other : Ending) (file : List ℕ) → IsOnlyRefused Form Refused file e → Takes Form (λ bytes. Refused bytes other) Next file → e ≡ other
  refused_at Next other file of (inl refused) = of.only other refused
  refused_at Next other file of (inr taken) = absurd (of.no_value taken.0 taken.1)

  pub refused_decided : (Next : X → Type 0) (other : Ending) → Tells known (Takes Form (λ bytes. Refused bytes other) Next) → e ≡ other
  refused_decided Next other tells = refused_at Next other tells.0 (told_same (λ bytes. IsOnlyRefused Form Refused bytes e) known tells.0 tells.1 no.0 no.1 no.2) tells.2

-- a file that is of one value leaves what comes next
module _ {X : Type 0} (Form : List ℕ → X → Type 0) (Refused : List ℕ → Ending → Type 0) (known : Option (List ℕ)) (x : X) (only : IsTaken Form Refused known x) where
  pub taken_allowed : (e : Ending) (Next : X → Type 0) → Next x → Allows known (Takes Form (λ bytes. Refused bytes e) Next)
  taken_allowed e Next next = (only.0, only.1, inr (x, only.2.form, next))

  taken_at : (e other : Ending) (Next : X → Type 0) → (Next x → e ≡ other) → (file : List ℕ) → IsOnlyOf Form Refused file x → Takes Form (λ bytes. Refused bytes other) Next file → e ≡ other
  taken_at e other Next h file of (inl refused) = absurd (of.kept other refused)
  taken_at e other Next h file of (inr taken) = h (subst Next (sym (of.only taken.0 taken.1)) taken.2)

  pub taken_decided : (e other : Ending) (Next : X → Type 0) → (Next x → e ≡ other) → Tells known (Takes Form (λ bytes. Refused bytes other) Next) → e ≡ other
  taken_decided e other Next h tells =
      taken_at e other Next h tells.0 (told_same (λ bytes. IsOnlyOf Form Refused bytes x) known tells.0 tells.1 only.0 only.1 only.2) tells.2
