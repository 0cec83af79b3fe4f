-- What the parser does with bytes that spell a tree: it counts the loose nodes up to the limit, and up to there
-- it has the term of the tree.
use Rattle.std.proofs.Common.{◌≡◌, ℕ, ◌+◌, ◌≤◌, false, List, [], ◌∷◌, ◌++◌, Some, refl, sym, ap, ap₂, ◌∙◌, arith}
use Rattle.std.proofs.lemmas.List.{append-nil}
use Rattle.sym_terms.specs.Plain.{PlainSum, sum, none, symbol, single_atom}
use Rattle.sym_terms.specs.Nodes.{nodes}
use Rattle.sym_terms.specs.Normal.{plus, times, fit, pair}
use Rattle.sym_terms.proofs.SumLemmas.{plus_times_nodes}
use Rattle.term_text.specs.declared.parser.PendingArgument.TheVariants as pending
use Rattle.term_text.specs.declared.parser.OpenCall.{OpenCall}
use Rattle.term_text.specs.declared.parser.ParseState.{ParseState}
use Rattle.term_text.specs.declared.parser.ParseState.TheVariants.{Start, Signed, Counted, Closed}
use Rattle.term_text.specs.Names.{fit_name, pair_name}
use Rattle.term_text.specs.Tree.{Sign, LooseTerm, loose_term, LoosePieces, no_piece, one_piece, LoosePiece, loose_number, loose_atom, loose_multiple, LooseAtom, loose_symbol, loose_fit, loose_pair, SpellsTerm, SpellsPieces, SpellsPiece, SpellsAtom, loose_nodes, nodes_of_more, nodes_of_piece, nodes_inside, signed_number, sign_or_plus, term_of, sum_with, term_of_piece, term_of_atom}
use Rattle.term_text.specs.Parser.{one_more, zero_term, signed, total, fitted_of, paired_of, coefficient, is_counted, start, call_for, take_word, pending_for, finish, run}
use Rattle.term_text.proofs.NameLemmas.{fit_reads, pair_reads, fit_word, pair_word}
use Rattle.term_text.proofs.StepLemmas.{at, run_words, Stops, stop_word, not_empty, stop41, stop44, nodes_pos}
use Rattle.term_text.proofs.SpellLemmas.{number_is_word, symbol_taken_as}
use Rattle.term_text.proofs.TreeLemmas.{piece_normal, atom_normal, tree_nodes, piece_nodes, atom_nodes, times_once}
use Rattle.term_text.proofs.CountLemmas.{capped, kept, more_capped, zero_kept, fitted_kept, paired_kept, is_minus, number_kept, atom_kept}
use Rattle.term_text.proofs.TreeSteps.{first_state, first_runs, first_once, first_uncounted, sign_runs, grouped, more_stop, number_taken, symbol_taken, star_runs, name_runs, fit_closes, pair_closes, comma_runs}

mutual
  -- a term, with n nodes before it
  tree_runs : (t : LooseTerm) (x : List ℕ) (fs : List OpenCall) (n m : ℕ) (rest : List ℕ) → SpellsTerm t x
      → m ≡ n + loose_nodes t → Stops rest
      → run (at fs zero_term (capped (n + 1)) false Start) [] (x ++ rest) ≡ run (at fs (kept m (term_of t)) (capped m) false Closed) [] rest
  tree_runs (loose_term first p ps) x fs n m rest h is stops =
      let sign = sign_or_plus first in
      let body = h.4 in
      let c = n + 1 in
      let m1 = n + 1 + nodes_of_piece p in
      ap (run (at fs zero_term (capped c) false Start) []) (grouped x h.0 h.1 rest h.2)
      ∙ first_runs first h.0 fs zero_term (capped c) (h.1 ++ rest) h.3
      ∙ ap (run (at fs zero_term (capped c) (is_minus sign) (first_state first)) []) (grouped h.1 body.0 body.1 rest body.2)
      ∙ ap (λ s. run (at fs s (capped c) (is_minus sign) (first_state first)) [] (body.0 ++ (body.1 ++ rest))) (sym (zero_kept c))
      ∙ piece_runs p body.0 sign fs zero_term c m1 (first_state first) (body.1 ++ rest) body.3 (first_once first) (first_uncounted first) (omega arith) refl (more_stop ps body.1 rest body.4 stops)
      ∙ ap (λ s. run (at fs (kept m1 s) (capped m1) false Closed) [] (body.1 ++ rest)) (times_once (term_of_piece sign p) (piece_normal sign p body.0 body.3))
      ∙ more_runs ps body.1 fs (term_of_piece sign p) m1 m rest body.4 (omega (arith, piece_nodes sign p)) (omega arith) stops

  -- later pieces, after a sum with n nodes
  more_runs : (ps : LoosePieces) (x : List ℕ) (fs : List OpenCall) (s : PlainSum) (n m : ℕ) (rest : List ℕ) → SpellsPieces ps x
      → nodes s ≤ n → m ≡ n + nodes_of_more ps → Stops rest
      → run (at fs (kept n s) (capped n) false Closed) [] (x ++ rest) ≡ run (at fs (kept m (sum_with s ps)) (capped m) false Closed) [] rest
  more_runs no_piece x fs s n m rest h small is stops =
      ap (λ w. run (at fs (kept n s) (capped n) false Closed) [] (w ++ rest)) h
      ∙ ap (λ (k : ℕ). run (at fs (kept k s) (capped k) false Closed) [] rest) (let e : n ≡ m = omega arith in e)
  more_runs (one_piece sign p ps) x fs s n m rest h small is stops =
      let body = h.4 in
      let m1 = n + nodes_of_piece p in
      let t = plus s (term_of_piece sign p) in
      ap (run (at fs (kept n s) (capped n) false Closed) []) (grouped x h.0 h.1 rest h.2 ∙ ap (λ w. w ++ (h.1 ++ rest)) h.3)
      ∙ sign_runs sign fs (kept n s) (capped n) (h.1 ++ rest)
      ∙ ap (run (at fs (kept n s) (capped n) (is_minus sign) Signed) []) (grouped h.1 body.0 body.1 rest body.2)
      ∙ piece_runs p body.0 sign fs s n m1 Signed (body.1 ++ rest) body.3 refl refl small refl (more_stop ps body.1 rest body.4 stops)
      ∙ more_runs ps body.1 fs t m1 m rest body.4 (omega (arith, plus_times_nodes s 1 (term_of_piece sign p), piece_nodes sign p)) (omega arith) stops

  -- a piece
  piece_runs : (p : LoosePiece) (x : List ℕ) (sign : Sign) (fs : List OpenCall) (s : PlainSum) (n m : ℕ) (q : ParseState) (rest : List ℕ)
      → SpellsPiece p x → coefficient q ≡ Some 1 → is_counted q ≡ false → nodes s ≤ n → m ≡ n + nodes_of_piece p → Stops rest
      → run (at fs (kept n s) (capped n) (is_minus sign) q) [] (x ++ rest) ≡ run (at fs (kept m (plus s (term_of_piece sign p))) (capped m) false Closed) [] rest
  piece_runs (loose_number v) x sign fs s n m q rest h e u small is stops =
      let b = is_minus sign in
      let from = at fs (kept n s) (capped n) b q in
      let word = number_is_word x v h in
      let t = term_of_piece sign (loose_number v) in
      run_words from [] x rest word.0
      ∙ stop_word from x rest fs (total (capped n) (kept n s) 1 (sum (signed b v) none)) (capped n) (not_empty x word.1) (number_taken fs (kept n s) (capped n) b q 1 x v e u h) stops
      ∙ ap (λ y. run (at fs y (capped n) false Closed) [] rest) (number_kept n s sign v (piece_normal sign (loose_number v) x h) small)
      ∙ ap (λ (k : ℕ). run (at fs (kept k (plus s t)) (capped k) false Closed) [] rest) (let i : n ≡ m = omega arith in i)
  piece_runs (loose_atom a) x sign fs s n m q rest h e u small is stops = atom_runs a x sign fs s n m q 1 rest h e small is stops
  piece_runs (loose_multiple v a) x sign fs s n m q rest h e u small is stops =
      let b = is_minus sign in
      let from = at fs (kept n s) (capped n) b q in
      let tail = h.4 in
      let star : h.1 ++ rest ≡ 42 ∷ (tail.1 ++ rest) = grouped h.1 tail.0 tail.1 rest tail.2 ∙ ap (λ w. w ++ (tail.1 ++ rest)) tail.3 in
      ap (run from []) (grouped x h.0 h.1 rest h.2 ∙ ap (λ w. h.0 ++ w) star)
      ∙ run_words from [] h.0 (42 ∷ (tail.1 ++ rest)) (number_is_word h.0 v h.3).0
      ∙ star_runs fs (kept n s) (capped n) b q 1 h.0 v (tail.1 ++ rest) e u h.3
      ∙ atom_runs a tail.1 sign fs s n m (Counted v) v rest tail.4 refl small is stops

  -- an atom, k times
  atom_runs : (a : LooseAtom) (x : List ℕ) (sign : Sign) (fs : List OpenCall) (s : PlainSum) (n m : ℕ) (q : ParseState) (k : ℕ) (rest : List ℕ)
      → SpellsAtom a x → coefficient q ≡ Some k → nodes s ≤ n → m ≡ n + (1 + nodes_inside a) → Stops rest
      → run (at fs (kept n s) (capped n) (is_minus sign) q) [] (x ++ rest) ≡ run (at fs (kept m (plus s (times (signed_number sign k) (term_of_atom a)))) (capped m) false Closed) [] rest
  atom_runs (loose_symbol y) x sign fs s n m q k rest h e small is stops =
      let b = is_minus sign in
      let from = at fs (kept n s) (capped n) b q in
      let taken = symbol_taken_as y x h in
      let atom = single_atom (symbol y) in
      let count : one_more (capped n) ≡ capped m = more_capped n ∙ ap capped (let i : n + 1 ≡ m = omega arith in i) in
      run_words from [] x rest taken.word
      ∙ stop_word from x rest fs (total (one_more (capped n)) (kept n s) (signed b k) atom) (one_more (capped n)) (not_empty x taken.begins) (symbol_taken fs (kept n s) (capped n) b q k x y e taken) stops
      ∙ ap (λ (c : ℕ). run (at fs (total c (kept n s) (signed b k) atom) c false Closed) [] rest) count
      ∙ ap (λ z. run (at fs z (capped m) false Closed) [] rest) (atom_kept n m s sign k atom atom (omega arith) (λ le. refl) (atom_normal (loose_symbol y) x h) (omega arith))
  atom_runs (loose_fit f t) x sign fs s n m q k rest h e small is stops =
      let b = is_minus sign in
      let from = at fs (kept n s) (capped n) b q in
      let inside = h.4.4 in
      let after : inside.1 ++ rest ≡ 41 ∷ rest = ap (λ w. w ++ rest) inside.4 in
      let opens : h.1 ++ rest ≡ 40 ∷ (h.4.1 ++ rest) = grouped h.1 h.4.0 h.4.1 rest h.4.2 ∙ ap (λ w. w ++ (h.4.1 ++ rest)) h.4.3 in
      let argument : h.4.1 ++ rest ≡ inside.0 ++ 41 ∷ rest = grouped h.4.1 inside.0 inside.1 rest inside.2 ∙ ap (λ w. inside.0 ++ w) after in
      let fs2 = fs ++ call_for (pending.Fit f) (kept n s) (signed b k) ∷ [] in
      let body = inside.0 ++ 41 ∷ rest in
      ap (run from []) (grouped x h.0 h.1 rest h.2 ∙ ap₂ (λ (v w : List ℕ). v ++ w) h.3 (opens ∙ ap (λ w. 40 ∷ w) argument))
      ∙ name_runs fs (kept n s) (capped n) b q k (fit_name f) body (pending.Fit f) (fit_word f) e (ap pending_for (fit_reads f))
      ∙ ap (λ (c : ℕ). run (at fs2 zero_term c false Start) [] body) (ap one_more (more_capped n) ∙ more_capped (n + 1))
      ∙ tree_runs t inside.0 fs2 (n + 1) m (41 ∷ rest) inside.3 (omega arith) stop41
      ∙ fit_closes fs (kept n s) (capped m) f (kept m (term_of t)) (signed b k) rest
      ∙ ap (λ z. run (at fs z (capped m) false Closed) [] rest)
      (atom_kept n m s sign k (fitted_of (capped m) f (kept m (term_of t))) (fit f (term_of t)) (omega arith)
      (λ le. fitted_kept m f (term_of t) le (omega (arith, tree_nodes t, nodes_pos s)))
      (atom_normal (loose_fit f t) x h) (omega (arith, atom_nodes (loose_fit f t))))
  atom_runs (loose_pair p a c) x sign fs s n m q k rest h e small is stops =
      let b = is_minus sign in
      let from = at fs (kept n s) (capped n) b q in
      let left = h.4.4 in
      let right = left.4.4 in
      let m1 = n + 1 + loose_nodes a in
      let opens : h.1 ++ rest ≡ 40 ∷ (h.4.1 ++ rest) = grouped h.1 h.4.0 h.4.1 rest h.4.2 ∙ ap (λ w. w ++ (h.4.1 ++ rest)) h.4.3 in
      let after : right.1 ++ rest ≡ 41 ∷ rest = ap (λ w. w ++ rest) right.4 in
      let second : left.4.1 ++ rest ≡ right.0 ++ 41 ∷ rest = grouped left.4.1 right.0 right.1 rest right.2 ∙ ap (λ w. right.0 ++ w) after in
      let comma : left.1 ++ rest ≡ 44 ∷ (left.4.1 ++ rest) = grouped left.1 left.4.0 left.4.1 rest left.4.2 ∙ ap (λ w. w ++ (left.4.1 ++ rest)) left.4.3 in
      let behind = 44 ∷ (right.0 ++ 41 ∷ rest) in
      let argument : h.4.1 ++ rest ≡ left.0 ++ behind = grouped h.4.1 left.0 left.1 rest left.2 ∙ ap (λ w. left.0 ++ w) (comma ∙ ap (λ w. 44 ∷ w) second) in
      let fs2 = fs ++ call_for (pending.First p) (kept n s) (signed b k) ∷ [] in
      let fs3 = fs ++ call_for (pending.Second p (kept m1 (term_of a))) (kept n s) (signed b k) ∷ [] in
      ap (run from []) (grouped x h.0 h.1 rest h.2 ∙ ap₂ (λ (v w : List ℕ). v ++ w) h.3 (opens ∙ ap (λ w. 40 ∷ w) argument))
      ∙ name_runs fs (kept n s) (capped n) b q k (pair_name p) (left.0 ++ behind) (pending.First p) (pair_word p) e (ap pending_for (pair_reads p))
      ∙ ap (λ (c : ℕ). run (at fs2 zero_term c false Start) [] (left.0 ++ behind)) (ap one_more (more_capped n) ∙ more_capped (n + 1))
      ∙ tree_runs a left.0 fs2 (n + 1) m1 behind left.3 refl stop44
      ∙ comma_runs fs (kept n s) (capped m1) p (kept m1 (term_of a)) (signed b k) (right.0 ++ 41 ∷ rest)
      ∙ ap (λ (c : ℕ). run (at fs3 zero_term c false Start) [] (right.0 ++ 41 ∷ rest)) (more_capped m1)
      ∙ tree_runs c right.0 fs3 m1 m (41 ∷ rest) right.3 (omega arith) stop41
      ∙ pair_closes fs (kept n s) (capped m) p (kept m1 (term_of a)) (kept m (term_of c)) (signed b k) rest
      ∙ ap (λ z. run (at fs z (capped m) false Closed) [] rest)
      (atom_kept n m s sign k (paired_of (capped m) p (kept m1 (term_of a)) (kept m (term_of c))) (pair p (term_of a) (term_of c)) (omega arith)
      (λ le. paired_kept m1 m p (term_of a) (term_of c) le (omega arith) (omega (arith, tree_nodes a, tree_nodes c, nodes_pos s)))
      (atom_normal (loose_pair p a c) x h) (omega (arith, atom_nodes (loose_pair p a c))))

-- the parser after the bytes that spell a tree
pub spelled_runs : (t : LooseTerm) (bytes : List ℕ) → SpellsTerm t bytes
    → run start [] bytes ≡ Some (at [] (kept (loose_nodes t) (term_of t)) (capped (loose_nodes t)) false Closed)
unfolding finish take_word
spelled_runs t bytes h =
    ap (run start []) (sym (append-nil bytes)) ∙ tree_runs t bytes [] 0 (loose_nodes t) [] h (omega arith) tt
