-- The entries of a table, one after another.
use Rattle.std.proofs.Common.{◌≡◌, ℕ, suc, ◌+◌, ◌-◌, ◌<◌, ◌≤◌, Option, Some, None, List, [], ◌∷◌, ◌++◌, refl, sym, ap, ◌∙◌, arith, append_assoc}
use Rattle.std.specs.Option.{option_map}
use Rattle.elf_image.specs.declared.image.Image.{Image}
use Rattle.jump_tables.specs.declared.table.Table.{Table}
use Rattle.jump_tables.specs.Table.{entry_at, in_front, entries}

-- numbers, and those of a list that may be unknown after them
abbrev pub after : List ℕ → Option (List ℕ) → Option (List ℕ)
after ns more = option_map (λ ms. ns ++ ms) more

after-in_front : (ns : List ℕ) (n : ℕ) (more : Option (List ℕ)) → after ns (in_front (Some n) more) ≡ after (ns ++ n ∷ []) more
after-in_front ns n None = refl
after-in_front ns n (Some ms) = ap Some (sym (append_assoc ns (n ∷ []) ms))

-- the entries from low + k on begin with entry low + k
module _ (image : Image) (t : Table) (ns : List ℕ) (low high k : ℕ) (ordered : low ≤ high) (below : k < high - low + 1) where
  rest : after ns (entries image t (low + k) (high + 1 - low - k))
      ≡ after ns (in_front (entry_at image t (low + k)) (entries image t (low + (k + 1)) (high + 1 - low - (k + 1))))
  rest =
      let one : high + 1 - low - k ≡ suc (high + 1 - low - (k + 1)) = omega (arith, ordered, below) in
      let next : low + k + 1 ≡ low + (k + 1) = omega arith in
      ap (λ m. after ns (entries image t (low + k) m)) one
      ∙ ap (λ x. after ns (in_front (entry_at image t (low + k)) (entries image t x (high + 1 - low - (k + 1))))) next

  -- one more entry that is known
  pub entries-more : (n : ℕ) (ms : List ℕ) → entry_at image t (low + k) ≡ Some n → ms ≡ ns ++ n ∷ []
      → after ns (entries image t (low + k) (high + 1 - low - k))
      ≡ after ms (entries image t (low + (k + 1)) (high + 1 - low - (k + 1)))
  entries-more n ms e f =
      let more = entries image t (low + (k + 1)) (high + 1 - low - (k + 1)) in
      rest ∙ ap (λ o. after ns (in_front o more)) e ∙ after-in_front ns n more ∙ ap (λ l. after l more) (sym f)

  -- an entry that is not fixed
  pub entries-none : entry_at image t (low + k) ≡ None → after ns (entries image t (low + k) (high + 1 - low - k)) ≡ None
  entries-none e =
      let more = entries image t (low + (k + 1)) (high + 1 - low - (k + 1)) in
      rest ∙ ap (λ o. after ns (in_front o more)) e
