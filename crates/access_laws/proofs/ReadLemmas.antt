-- What is known of a place in memory that is read is true, and so is what is known after it was read.
use Rattle.std.proofs.Common.{◌≡◌, ℕ, ◌+◌, ◌*◌, ◌%◌, ◌^◌, ◌<◌, Bool, true, false, Option, Some, None, refl, sym, ap, subst, ◌∙◌, arith}
use Rattle.std.proofs.Math.Nat.{mod-lt}
use Rattle.std.specs.Prelude.{IsTrue}
use Rattle.std.specs.Option.{option_map, option_and_then}
use Rattle.bits_core.specs.declared.width.Width.{Width}
use Rattle.bits_core.specs.declared.width.Width.TheVariants.{W8, W16, W32, W64}
use Rattle.bits_core.specs.Width.{bits_of, bytes_of}
use Rattle.elf_image.specs.Image.{IsImage, fixed_of}
use Rattle.sym_terms.specs.declared.kinds.Sym.TheVariants.{FsBase}
use Rattle.sym_terms.specs.Plain.{PlainSum, constant_alone}
use Rattle.sym_terms.specs.Value.{Valuation, IsInRange}
use Rattle.term_laws.specs.Laws.{ValueLaws}
use Rattle.mem_forest.specs.Shape.{is_size}
use Rattle.predicates.specs.Predicate.{Predicate}
use Rattle.x86_instr.specs.declared.instr.Place.{Place}
use Rattle.x86_instr.specs.declared.instr.Instr.{Instr}
use Rattle.x86_machine.specs.Memory.{loaded}
use Rattle.x86_machine.specs.State.{State, IsState}
use Rattle.x86_machine.specs.Access.{part, segment, address, read}
use Rattle.mem_forest.specs.Search.{value_at}
use Rattle.forest_meaning.specs.Assumed.{Keeps, Loaded}
use Rattle.value_laws.proofs.Ground.{ForestLaws, Ground}
use Rattle.step_rules.specs.View.{View}
use Rattle.step_rules.specs.Terms.{number}
use Rattle.step_rules.specs.Names.{load_name, store_name}
use Rattle.predicate_meaning.specs.Sat.{register, Sat}
use Rattle.step_rules.specs.Access.{part_term, segment_term, address_sum, address_term, address_term_of, store_term, fixed_term, bytes_term, known_term, read_term, forest_after_load, loaded_from, after_read}
use Rattle.forest_meaning.specs.Holds.{Holds, Means, Tells}
use Rattle.value_laws.proofs.Scene.{Reads}
use Rattle.value_laws.proofs.MeansLemmas.{means_as, tells_as, tells_or, tells_both, means_number, means_symbol, means_plus, means_times}
use Rattle.access_laws.proofs.NumberLemmas.{loaded_below, fixed_loaded}
use Rattle.x86_instr.specs.declared.instr.Operand.TheVariants as operand

address_number : (x y k d f : ℕ) → (((x + k * y % 2 ^ 64) % 2 ^ 64 + d) % 2 ^ 64 + f) % 2 ^ 64 ≡ (x + y * k + d + f) % 2 ^ 64
address_number x y k d f = omega arith

sized : (w : Width) → IsTrue (is_size (bytes_of w))
sized W8 = refl
sized W16 = refl
sized W32 = refl
sized W64 = refl

bytes_bits : (w : Width) → 256 ^ bytes_of w ≡ 2 ^ bits_of w
bytes_bits W8 = refl
bytes_bits W16 = refl
bytes_bits W32 = refl
bytes_bits W64 = refl

below_quad : (w : Width) (m : ℕ) → m < 2 ^ bits_of w → m < 2 ^ 64
below_quad W8 m h = omega arith
below_quad W16 m h = omega arith
below_quad W32 m h = omega arith
below_quad W64 m h = h

module _ (g : Ground) (u : Valuation) (range : IsInRange u) where
  values : ValueLaws u
  values = g.values u range

  module _ (p : Predicate) (s : State) (h : Sat p s u) where
    part_tells : (r : Option ℕ) → Tells u (part_term p r) (part s r)
    unfolding part_term part
    part_tells None = means_number u g.normal values 0 (omega arith)
    part_tells (Some r) = h.registers r

    segment_means : (b : Bool) → Means u (segment_term b) (segment s b)
    unfolding segment
    segment_means true = means_as u _ u.fs s.fs_base (sym h.fs_base) (means_symbol u g.normal values FsBase tt)
    segment_means false = means_number u g.normal values 0 (omega arith)

    -- the address of a place
    pub address_tells : (pl : Place) → pl.disp < 2 ^ 64 → Tells u (address_term p pl) (address s pl)
    unfolding address_term address
    address_tells pl small =
        tells_as u _ _ _ (address_number (part s pl.base) (part s pl.index) pl.scale pl.disp (segment s pl.fs))
        (tells_both u (address_sum pl) (part_term p pl.base) (part_term p pl.index) _ _ _
        (λ a b ha hb. means_plus u g.normal values _ _ _ _ (means_plus u g.normal values _ _ _ _ (means_plus u g.normal values a _ _ _ ha (means_times u g.normal values pl.scale b _ hb)) (means_number u g.normal values pl.disp small)) (segment_means pl.fs))
        (part_tells pl.base) (part_tells pl.index))

module _ (g : Ground) (forest : ForestLaws) (v : View) (s : State) (u : Valuation) (is : IsState s) (range : IsInRange u) (formed : IsImage v.known.image) (image : Loaded v.known.image s.memory) where
  pub loads_below : (w : Width) (x : ℕ) → loaded s.memory (bytes_of w) x < 2 ^ bits_of w
  loads_below w x = subst (λ n. loaded s.memory (bytes_of w) x < n) (bytes_bits w) (loaded_below s.memory is.bytes (bytes_of w) x)

  fixed_number : (n k x : ℕ) (o : Option ℕ) → (c : ℕ) → c ≡ x → fixed_of v.known.image c n ≡ o → loaded s.memory n x ≡ k → k < 2 ^ 64 → Tells u (option_map number o) k
  fixed_number n k x None c e f h small = tt
  fixed_number n k x (Some j) c e f h small =
      let same : j ≡ k = sym (fixed_loaded v.known.image s.memory c n j formed image f) ∙ ap (loaded s.memory n) e ∙ h in
      means_as u _ j k same (means_number u g.normal (g.values u range) j (subst (λ y. y < 2 ^ 64) (sym same) small))

  fixed_at : (a : PlainSum) (n k x : ℕ) (o : Option ℕ) → Means u a x → constant_alone a ≡ o → loaded s.memory n x ≡ k → k < 2 ^ 64 → Tells u (option_map number (option_and_then (λ c. fixed_of v.known.image c n) o)) k
  fixed_at a n k x None h e l small = tt
  fixed_at a n k x (Some c) h e l small = fixed_number n k x (fixed_of v.known.image c n) c (sym ((g.values u range).known a c h.normal e) ∙ h.value) refl l small

  -- so many bytes at a known address
  pub bytes_tell : (p : Predicate) (w : Width) (at : Option PlainSum) (x : ℕ) → x < 2 ^ 64 → Tells u at x → Sat p s u → Tells u (bytes_term v p.forest (bytes_of w) at) (loaded s.memory (bytes_of w) x)
  unfolding bytes_term
  bytes_tell p w None x low k h = tt
  bytes_tell p w (Some a) x low k h =
      tells_or u (fixed_term v a (bytes_of w)) (value_at a (bytes_of w) p.forest) _
      (fixed_at a (bytes_of w) _ x (constant_alone a) k refl refl (below_quad w _ (loads_below w x)))
      (tells_as u _ _ _ (ap (λ y. loaded s.memory (bytes_of w) y) k.value) (forest.find u s.memory a (bytes_of w) p.forest h.forest))

module _ (g : Ground) (forest : ForestLaws) (v : View) (s : State) (u : Valuation) (is : IsState s) (range : IsInRange u) (kept : Keeps u v.known) (image : Loaded v.known.image s.memory) where
  forest_loaded : (i : Instr) (p : Predicate) (w : Width) (a : PlainSum) (x : ℕ) (fixed : Option PlainSum) → Means u a x
      → Tells u (load_name i w) (loaded s.memory (bytes_of w) x) → Sat p s u
      → Holds s.memory u (forest_after_load v a (bytes_of w) fixed (load_name i w) p.forest)
  forest_loaded i p w a x (Some t) k name h = h.forest
  forest_loaded i p w a x None k name h =
      forest.load u v.known kept s.memory a (bytes_of w) (load_name i w) (sized w)
      (tells_as u _ _ _ (sym (ap (λ y. loaded s.memory (bytes_of w) y) k.value)) name) p.forest h.forest

  -- what is known after a load from an address, which the name is true of
  pub loaded_holds : (i : Instr) (p : Predicate) (w : Width) (at : Option PlainSum) (x : ℕ) → Tells u at x → Tells u (load_name i w) (loaded s.memory (bytes_of w) x) → Sat p s u
      → Sat (loaded_from v i p w at) s u
  unfolding register
  loaded_holds i p w None x k name h = h
  loaded_holds i p w (Some a) x k name h = record {
    range = h.range;
    fs_base = h.fs_base;
    registers = h.registers;
    flags = h.flags;
    bounds = h.bounds;
    forest = forest_loaded i p w a x (fixed_term v a (bytes_of w)) k name h;
  }

  -- a place in memory, of which the name is true
  module _ (i : Instr) (w : Width) (pl : Place) (small : pl.disp < 2 ^ 64) (name : Tells u (load_name i w) (read s w (operand.Mem pl))) (at : Tells u (store_name i) (address s pl)) where
    low : address s pl < 2 ^ 64
    unfolding address
    low = mod-lt _ (omega arith)

    known_place : (p : Predicate) → Sat p s u → Tells u (known_term v i p w (operand.Mem pl)) (read s w (operand.Mem pl))
    unfolding known_term read
    known_place p h = bytes_tell g forest v s u is range kept.image image p w (store_term i p pl) (address s pl) low (tells_or u (address_term p pl) (store_name i) _ (address_tells g u range p s h pl small) at) h

    read_place : (p : Predicate) → Sat p s u → Tells u (read_term v i p w (operand.Mem pl)) (read s w (operand.Mem pl))
    unfolding read_term
    read_place p h = tells_or u (known_term v i p w (operand.Mem pl)) (load_name i w) _ (known_place p h) name

    place_fits : read s w (operand.Mem pl) < 2 ^ bits_of w
    unfolding read
    place_fits = loads_below g forest v s u is range kept.image image w (address s pl)

    place_loads : (p : Predicate) → Sat p s u → Sat (after_read v i p w (operand.Mem pl)) s u
    unfolding after_read address_term_of read
    place_loads p h = loaded_holds i p w (address_term p pl) (address s pl) (address_tells g u range p s h pl small) name h

    pub place_reads : Reads v i s u w (operand.Mem pl)
    place_reads = record { known = known_place; value = read_place; fits = place_fits; loads = place_loads }
