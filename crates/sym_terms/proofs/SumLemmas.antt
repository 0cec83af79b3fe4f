-- Sums of terms: their normal form, and how many nodes they have.
use Rattle.std.proofs.Common.{◌≡◌, ℕ, zero, suc, ◌+◌, ◌*◌, ◌%◌, ◌^◌, ◌<◌, ◌≤◌, refl, sym, ap, subst, ◌∙◌, arith}
use Rattle.std.proofs.Math.Nat.{mod-lt}
use Rattle.std.specs.declared.cmp.Ordering.TheVariants.{Less, Equal, Greater}
use Rattle.std.specs.Ordering.{ordering_reverse}
use Rattle.sym_terms.specs.Plain.{PlainSum, sum, Summands, none, more, PlainAtom}
use Rattle.sym_terms.specs.Nodes.{nodes, nodes_of_pieces, nodes_of_atom}
use Rattle.sym_terms.specs.Order.{atom_cmp}
use Rattle.sym_terms.specs.Codes.{atom_same, atom_total}
use Rattle.sym_terms.specs.Normal.{joined, plus_times_pieces, plus_times, IsNormal, AreNormal, IsNormalAtom, IsBefore}

-- what is before the first is before all
pub before_trans : (c b : PlainAtom) (ys : Summands) → atom_cmp c b ≡ Less → IsBefore b ys → IsBefore c ys
before_trans c b none e h = tt
before_trans c b (more d l ys) e h = atom_total.trans c b d e h

-- an order, turned round
pub turned : (a b : PlainAtom) → atom_cmp a b ≡ Greater → atom_cmp b a ≡ Less
turned a b e = atom_total.antisymm b a ∙ ap ordering_reverse e

-- a remainder has 64 bits
below_mod : (n : ℕ) → n % 2 ^ 64 < 2 ^ 64
below_mod n = mod-lt n (omega arith)

joined_normal : (a : PlainAtom) (k : ℕ) (xs : Summands) → IsNormalAtom a → k < 2 ^ 64 → IsBefore a xs → AreNormal xs → AreNormal (joined a k xs)
joined_normal a zero xs n below first h = h
joined_normal a (suc k) xs n below first h = (n, omega arith, below, first, h)

-- what is before a piece is before it in front of others
before_joined : (c a : PlainAtom) (k : ℕ) (xs : Summands) → atom_cmp c a ≡ Less → IsBefore a xs → IsBefore c (joined a k xs)
before_joined c a zero xs e h = before_trans c a xs e h
before_joined c a (suc k) xs e h = e

-- an atom before both lists is before their sum
pub before_plus_times : (c : PlainAtom) (xs : Summands) (m : ℕ) (ys : Summands)
    → AreNormal xs → AreNormal ys → IsBefore c xs → IsBefore c ys → IsBefore c (plus_times_pieces xs m ys)
before_plus_times c none m none nx ny hx hy = tt
before_plus_times c none m (more b l ys) nx ny hx hy =
    before_joined c b (m * l % 2 ^ 64) (plus_times_pieces none m ys) hy (before_plus_times b none m ys tt ny.4 tt ny.3)
before_plus_times c (more a k xs) m none nx ny hx hy = hx
before_plus_times c (more a k xs) m (more b l ys) nx ny hx hy =
    (elim (atom_cmp a b) as (λ o. atom_cmp a b ≡ o →
    IsBefore c (elim o as (λ o. Summands) [
      | Less ↦ more a k (plus_times_pieces xs m (more b l ys))
      | Equal ↦ joined a ((k + m * l) % 2 ^ 64) (plus_times_pieces xs m ys)
      | Greater ↦ joined b (m * l % 2 ^ 64) (plus_times_pieces (more a k xs) m ys)
    ])) [
      | Less ↦ λ e. hx
      | Equal ↦ λ e.
          before_joined c a ((k + m * l) % 2 ^ 64) (plus_times_pieces xs m ys) hx
          (before_plus_times a xs m ys nx.4 ny.4 nx.3 (subst (λ d. IsBefore d ys) (sym (atom_same a b e)) ny.3))
      | Greater ↦ λ e.
          before_joined c b (m * l % 2 ^ 64) (plus_times_pieces (more a k xs) m ys) hy
          (before_plus_times b (more a k xs) m ys nx ny.4 (turned a b e) ny.3)
    ]) refl

-- the merge of normal pieces is normal
pub plus_times_pieces_normal : (xs : Summands) (m : ℕ) (ys : Summands) → AreNormal xs → AreNormal ys → AreNormal (plus_times_pieces xs m ys)
plus_times_pieces_normal none m none nx ny = tt
plus_times_pieces_normal none m (more b l ys) nx ny =
    joined_normal b (m * l % 2 ^ 64) (plus_times_pieces none m ys) ny.0 (below_mod (m * l))
    (before_plus_times b none m ys tt ny.4 tt ny.3) (plus_times_pieces_normal none m ys tt ny.4)
plus_times_pieces_normal (more a k xs) m none nx ny = nx
plus_times_pieces_normal (more a k xs) m (more b l ys) nx ny =
    (elim (atom_cmp a b) as (λ o. atom_cmp a b ≡ o →
    AreNormal (elim o as (λ o. Summands) [
      | Less ↦ more a k (plus_times_pieces xs m (more b l ys))
      | Equal ↦ joined a ((k + m * l) % 2 ^ 64) (plus_times_pieces xs m ys)
      | Greater ↦ joined b (m * l % 2 ^ 64) (plus_times_pieces (more a k xs) m ys)
    ])) [
      | Less ↦ λ e. (nx.0, nx.1, nx.2, before_plus_times a xs m (more b l ys) nx.4 ny nx.3 e, plus_times_pieces_normal xs m (more b l ys) nx.4 ny)
      | Equal ↦ λ e.
          joined_normal a ((k + m * l) % 2 ^ 64) (plus_times_pieces xs m ys) nx.0 (below_mod (k + m * l))
          (before_plus_times a xs m ys nx.4 ny.4 nx.3 (subst (λ d. IsBefore d ys) (sym (atom_same a b e)) ny.3))
          (plus_times_pieces_normal xs m ys nx.4 ny.4)
      | Greater ↦ λ e.
          joined_normal b (m * l % 2 ^ 64) (plus_times_pieces (more a k xs) m ys) ny.0 (below_mod (m * l))
          (before_plus_times b (more a k xs) m ys nx ny.4 (turned a b e) ny.3)
          (plus_times_pieces_normal (more a k xs) m ys nx ny.4)
    ]) refl

-- a + m * b is normal where a and b are
pub plus_times_normal : (a : PlainSum) (m : ℕ) (b : PlainSum) → IsNormal a → IsNormal b → IsNormal (plus_times a m b)
unfolding plus_times
plus_times_normal (sum c xs) m (sum d ys) na nb = (below_mod (c + m * d), plus_times_pieces_normal xs m ys na.1 nb.1)

-- the nodes after a piece is put in front
joined_nodes : (a : PlainAtom) (k : ℕ) (xs : Summands) → nodes_of_pieces (joined a k xs) ≤ nodes_of_atom a + nodes_of_pieces xs
joined_nodes a zero xs = omega arith
joined_nodes a (suc k) xs = omega arith

-- the merge has no more nodes than both lists
plus_times_pieces_nodes : (xs : Summands) (m : ℕ) (ys : Summands) → nodes_of_pieces (plus_times_pieces xs m ys) ≤ nodes_of_pieces xs + nodes_of_pieces ys
plus_times_pieces_nodes none m none = omega arith
plus_times_pieces_nodes none m (more b l ys) =
    omega (arith, plus_times_pieces_nodes none m ys, joined_nodes b (m * l % 2 ^ 64) (plus_times_pieces none m ys))
plus_times_pieces_nodes (more a k xs) m none = omega arith
plus_times_pieces_nodes (more a k xs) m (more b l ys) =
    elim (atom_cmp a b) as (λ o.
    nodes_of_pieces (elim o as (λ o. Summands) [
      | Less ↦ more a k (plus_times_pieces xs m (more b l ys))
      | Equal ↦ joined a ((k + m * l) % 2 ^ 64) (plus_times_pieces xs m ys)
      | Greater ↦ joined b (m * l % 2 ^ 64) (plus_times_pieces (more a k xs) m ys)
    ]) ≤ nodes_of_pieces (more a k xs) + nodes_of_pieces (more b l ys)) [
      | Less ↦ omega (arith, plus_times_pieces_nodes xs m (more b l ys))
      | Equal ↦ omega (arith, plus_times_pieces_nodes xs m ys, joined_nodes a ((k + m * l) % 2 ^ 64) (plus_times_pieces xs m ys))
      | Greater ↦ omega (arith, plus_times_pieces_nodes (more a k xs) m ys, joined_nodes b (m * l % 2 ^ 64) (plus_times_pieces (more a k xs) m ys))
    ]

-- a + m * b has fewer nodes than both together
pub plus_times_nodes : (a : PlainSum) (m : ℕ) (b : PlainSum) → nodes (plus_times a m b) < nodes a + nodes b
unfolding plus_times
plus_times_nodes (sum c xs) m (sum d ys) = omega (arith, plus_times_pieces_nodes xs m ys)

-- no pieces added, whatever they are multiplied with
pub plus_nothing : (xs : Summands) (m : ℕ) → plus_times_pieces xs m none ≡ xs
plus_nothing none m = refl
plus_nothing (more a k xs) m = refl
