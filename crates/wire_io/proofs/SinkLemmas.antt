-- A stream that is written piece by piece: its bytes, and the room that a stall shows.
use Rattle.std.proofs.Common.{◌≡◌, ◌⊎◌, inl, inr, append_assoc, ℕ, ◌+◌, ◌-◌, List, ◌++◌, length, take, drop, sym, ◌∙◌, ap, subst, arith, length-append, length-drop, Some, None, refl}
use Rattle.std.proofs.lemmas.List.{take_all}
use Rattle.std.proofs.Math.Seq.{take-add}
use Rattle.std.specs.declared.option.Option.{Option}
use Rattle.std.specs.Io.KnownBytes.{append_known}
use Rattle.wire_io.specs.Sink.{Grows, IsFull, KeepsRoom}

-- two pieces one after another are one
pub Grows-trans : (a b c : Option (List ℕ)) (x y : List ℕ) → Grows a b x → Grows b c y → Grows a c (x ++ y)
Grows-trans None b c x y first second = second ∙ ap (λ (o : Option (List ℕ)). append_known o y) first
Grows-trans (Some bytes) b c x y first second =
    second ∙ ap (λ (o : Option (List ℕ)). append_known o y) first ∙ ap (λ (l : List ℕ). Some l) (append_assoc bytes x y)

-- t bytes of a list, and n more of what is left of it, are its first t + n
pub Grows-take : (a b c : Option (List ℕ)) (bytes : List ℕ) (t n : ℕ) → Grows a b (take t bytes) → Grows b c (take n (take (length bytes - t) (drop t bytes))) → Grows a c (take (t + n) bytes)
Grows-take a b c bytes t n first second =
    let rest : take (length bytes - t) (drop t bytes) ≡ drop t bytes = take_all (length bytes - t) (drop t bytes) (omega (arith, length-drop t bytes)) in
    let both : take (t + n) bytes ≡ take t bytes ++ take n (take (length bytes - t) (drop t bytes)) = take-add t n bytes ∙ ap (λ (l : List ℕ). take t bytes ++ take n l) (sym rest) in
    subst (Grows a c) (sym both) (Grows-trans a b c (take t bytes) (take n (take (length bytes - t) (drop t bytes))) first second)

-- a full stream that grows stays full
IsFull-grows : (room later : Option ℕ) (old new : Option (List ℕ)) (more : List ℕ) → later ≡ room → Grows old new more → IsFull room old → IsFull later new
IsFull-grows room later None new more same grows full most bytes room_is told = absurd (cc (grows, told))
IsFull-grows room later (Some written) new more same grows full most bytes room_is told =
    let both : Some bytes ≡ Some (written ++ more) = sym told ∙ grows in
    let list : bytes ≡ written ++ more = cc both in
    omega (arith, full most written (sym same ∙ room_is) refl, ap length list, length-append written more)

-- what a first call shows of the room, a second call keeps
pub KeepsRoom-trans : (a b c : Option ℕ) (s t u : ℕ) (old new : Option (List ℕ)) (more : List ℕ) → Grows old new more → KeepsRoom a b s t old → KeepsRoom b c t u new → KeepsRoom a c s u new
KeepsRoom-trans a b c s t u old new more grows first second = record { same = second.same ∙ first.same; stall = stall first.stall second.stall }
  where
    stall : (t ≡ s) ⊎ IsFull b old → (u ≡ t) ⊎ IsFull c new → (u ≡ s) ⊎ IsFull c new
    stall x (inr full) = inr full
    stall (inl e) (inl f) = inl (f ∙ e)
    stall (inr full) (inl f) = inr (IsFull-grows b c old new more second.same grows full)
