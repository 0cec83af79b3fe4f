-- A name that is written is read again, and is a word.
use Rattle.std.proofs.Common.{◌≡◌, ℕ, zero, suc, ◌<◌, ◌≤◌, Bool, true, false, ◌&&◌, leb, List, [], ◌∷◌, length, Some, None, refl, ap, arith}
use Rattle.std.specs.Fmt.{digits}
use Rattle.std.proofs.lemmas.Bool.{leb-true}
use Rattle.sym_terms.specs.declared.kinds.Sym.{Sym}
use Rattle.sym_terms.specs.declared.kinds.Sym.TheVariants.{Entry, Ra, FsBase, Named}
use Rattle.sym_terms.specs.declared.kinds.Fit.{Fit}
use Rattle.sym_terms.specs.declared.kinds.Fit.TheVariants.{Zx8, Zx16, Zx32, Sx8, Sx16, Sx32}
use Rattle.sym_terms.specs.declared.kinds.Pair.{Pair}
use Rattle.sym_terms.specs.declared.kinds.Pair.TheVariants.{And, Or, Xor, Mul, Shr, Sar}
use Rattle.sym_terms.specs.Plain.{IsSymbol}
use Rattle.term_text.specs.declared.names.Keyword.TheVariants as word
use Rattle.term_text.specs.Numbers.{number_at}
use Rattle.term_text.specs.Names.{fixed_name, fit_name, pair_name, keyword_at, symbol_at, as_named}
use Rattle.term_text.specs.Text.{symbol_text}
use Rattle.term_text.proofs.NumberLemmas.{AreWord, hex_reads, hex_word, hex_short}

-- what holds of each of the 16 numbers holds of each number below 16
below_16 : (P : ℕ → Type 0) → P 0 → P 1 → P 2 → P 3 → P 4 → P 5 → P 6 → P 7 → P 8 → P 9 → P 10 → P 11 → P 12 → P 13
    → P 14 → P 15 → (r : ℕ) → r < 16 → P r
below_16 P p0 p1 p2 p3 p4 p5 p6 p7 p8 p9 p10 p11 p12 p13 p14 p15 zero lt = p0
below_16 P p0 p1 p2 p3 p4 p5 p6 p7 p8 p9 p10 p11 p12 p13 p14 p15 (suc zero) lt = p1
below_16 P p0 p1 p2 p3 p4 p5 p6 p7 p8 p9 p10 p11 p12 p13 p14 p15 (suc (suc zero)) lt = p2
below_16 P p0 p1 p2 p3 p4 p5 p6 p7 p8 p9 p10 p11 p12 p13 p14 p15 (suc (suc (suc zero))) lt = p3
below_16 P p0 p1 p2 p3 p4 p5 p6 p7 p8 p9 p10 p11 p12 p13 p14 p15 (suc (suc (suc (suc zero)))) lt = p4
below_16 P p0 p1 p2 p3 p4 p5 p6 p7 p8 p9 p10 p11 p12 p13 p14 p15 (suc (suc (suc (suc (suc zero))))) lt = p5
below_16 P p0 p1 p2 p3 p4 p5 p6 p7 p8 p9 p10 p11 p12 p13 p14 p15 (suc (suc (suc (suc (suc (suc zero)))))) lt = p6
below_16 P p0 p1 p2 p3 p4 p5 p6 p7 p8 p9 p10 p11 p12 p13 p14 p15 (suc (suc (suc (suc (suc (suc (suc zero))))))) lt = p7
below_16 P p0 p1 p2 p3 p4 p5 p6 p7 p8 p9 p10 p11 p12 p13 p14 p15 (suc (suc (suc (suc (suc (suc (suc (suc zero)))))))) lt = p8
below_16 P p0 p1 p2 p3 p4 p5 p6 p7 p8 p9 p10 p11 p12 p13 p14 p15 (suc (suc (suc (suc (suc (suc (suc (suc (suc zero))))))))) lt = p9
below_16 P p0 p1 p2 p3 p4 p5 p6 p7 p8 p9 p10 p11 p12 p13 p14 p15 (suc (suc (suc (suc (suc (suc (suc (suc (suc (suc zero)))))))))) lt = p10
below_16 P p0 p1 p2 p3 p4 p5 p6 p7 p8 p9 p10 p11 p12 p13 p14 p15 (suc (suc (suc (suc (suc (suc (suc (suc (suc (suc (suc zero))))))))))) lt = p11
below_16 P p0 p1 p2 p3 p4 p5 p6 p7 p8 p9 p10 p11 p12 p13 p14 p15 (suc (suc (suc (suc (suc (suc (suc (suc (suc (suc (suc (suc zero)))))))))))) lt = p12
below_16 P p0 p1 p2 p3 p4 p5 p6 p7 p8 p9 p10 p11 p12 p13 p14 p15 (suc (suc (suc (suc (suc (suc (suc (suc (suc (suc (suc (suc (suc zero))))))))))))) lt = p13
below_16 P p0 p1 p2 p3 p4 p5 p6 p7 p8 p9 p10 p11 p12 p13 p14 p15 (suc (suc (suc (suc (suc (suc (suc (suc (suc (suc (suc (suc (suc (suc zero)))))))))))))) lt = p14
below_16 P p0 p1 p2 p3 p4 p5 p6 p7 p8 p9 p10 p11 p12 p13 p14 p15 (suc (suc (suc (suc (suc (suc (suc (suc (suc (suc (suc (suc (suc (suc (suc zero))))))))))))))) lt = p15
below_16 P p0 p1 p2 p3 p4 p5 p6 p7 p8 p9 p10 p11 p12 p13 p14 p15 (suc (suc (suc (suc (suc (suc (suc (suc (suc (suc (suc (suc (suc (suc (suc (suc r)))))))))))))))) lt = absurd (omega arith)

-- a register at entry
entry_reads : (r : ℕ) → r < 16 → symbol_at (fixed_name (Entry r)) ≡ Some (Entry r)
unfolding symbol_at keyword_at
entry_reads r lt = below_16 (λ r. symbol_at (fixed_name (Entry r)) ≡ Some (Entry r)) refl refl refl refl refl refl refl refl refl refl refl refl refl refl refl refl r lt

-- its name is a word
entry_word : (r : ℕ) → r < 16 → AreWord (fixed_name (Entry r))
entry_word r lt = below_16 (λ r. AreWord (fixed_name (Entry r))) (refl, (refl, (refl, (refl, tt)))) (refl, (refl, (refl, (refl, tt)))) (refl, (refl, (refl, (refl, tt)))) (refl, (refl, (refl, (refl, tt)))) (refl, (refl, (refl, (refl, tt)))) (refl, (refl, (refl, (refl, tt)))) (refl, (refl, (refl, (refl, tt)))) (refl, (refl, (refl, (refl, tt)))) (refl, (refl, (refl, tt))) (refl, (refl, (refl, tt))) (refl, (refl, (refl, (refl, tt)))) (refl, (refl, (refl, (refl, tt)))) (refl, (refl, (refl, (refl, tt)))) (refl, (refl, (refl, (refl, tt)))) (refl, (refl, (refl, (refl, tt)))) (refl, (refl, (refl, (refl, tt)))) r lt

-- and no number
entry_none : (r : ℕ) → r < 16 → number_at (fixed_name (Entry r)) ≡ None
entry_none r lt = below_16 (λ r. number_at (fixed_name (Entry r)) ≡ None) refl refl refl refl refl refl refl refl refl refl refl refl refl refl refl refl r lt

-- of 1 to 17 bytes
entry_length : (r : ℕ) → r < 16 → leb 1 (length (fixed_name (Entry r))) && leb (length (fixed_name (Entry r))) 17 ≡ true
entry_length r lt = below_16 (λ r. leb 1 (length (fixed_name (Entry r))) && leb (length (fixed_name (Entry r))) 17 ≡ true) refl refl refl refl refl refl refl refl refl refl refl refl refl refl refl refl r lt

-- a symbol
pub symbol_reads : (s : Sym) → IsSymbol s → symbol_at (symbol_text s) ≡ Some s
unfolding symbol_at keyword_at
symbol_reads (Entry r) is = entry_reads r is
symbol_reads Ra is = refl
symbol_reads FsBase is = refl
symbol_reads (Named address) is = ap as_named (hex_reads address is)

-- its text is a word
pub symbol_word : (s : Sym) → IsSymbol s → AreWord (symbol_text s)
symbol_word (Entry r) is = entry_word r is
symbol_word Ra is = (refl, (refl, tt))
symbol_word FsBase is = (refl, (refl, tt))
symbol_word (Named address) is = (refl, hex_word address is)

-- what begins with a v is no number
pub no_number : (cs : List ℕ) → number_at (118 ∷ cs) ≡ None
no_number [] = refl
no_number (c ∷ cs) = refl

-- and no number
pub symbol_none : (s : Sym) → IsSymbol s → number_at (symbol_text s) ≡ None
symbol_none (Entry r) is = entry_none r is
symbol_none Ra is = refl
symbol_none FsBase is = refl
symbol_none (Named address) is = no_number (digits 16 false address)

-- both of two that hold together
both_true : (a b : Bool) → (a && b) ≡ true → (a ≡ true) × (b ≡ true)
both_true true b e = (refl, e)
both_true false b e = absurd (cc)

-- 1 to 17 bytes
pub symbol_begins : (s : Sym) → IsSymbol s → 0 < length (symbol_text s)
symbol_begins (Entry r) is = leb-true 1 (length (fixed_name (Entry r))) (both_true _ _ (entry_length r is)).0
symbol_begins Ra is = omega arith
symbol_begins FsBase is = omega arith
symbol_begins (Named address) is = omega arith

-- and 17 at most
pub symbol_short : (s : Sym) → IsSymbol s → length (symbol_text s) ≤ 17
symbol_short (Entry r) is = leb-true (length (fixed_name (Entry r))) 17 (both_true _ _ (entry_length r is)).1
symbol_short Ra is = omega arith
symbol_short FsBase is = omega arith
symbol_short (Named address) is = omega (arith, hex_short address is)

-- a fit
pub fit_reads : (f : Fit) → keyword_at (fit_name f) ≡ Some (word.Fit f)
unfolding keyword_at
fit_reads Zx8 = refl
fit_reads Zx16 = refl
fit_reads Zx32 = refl
fit_reads Sx8 = refl
fit_reads Sx16 = refl
fit_reads Sx32 = refl

-- its name is a word
pub fit_word : (f : Fit) → AreWord (fit_name f)
fit_word Zx8 = (refl, (refl, (refl, tt)))
fit_word Zx16 = (refl, (refl, (refl, (refl, tt))))
fit_word Zx32 = (refl, (refl, (refl, (refl, tt))))
fit_word Sx8 = (refl, (refl, (refl, tt)))
fit_word Sx16 = (refl, (refl, (refl, (refl, tt))))
fit_word Sx32 = (refl, (refl, (refl, (refl, tt))))

-- of 4 bytes at most
pub fit_short : (f : Fit) → length (fit_name f) ≤ 4
fit_short Zx8 = omega arith
fit_short Zx16 = omega arith
fit_short Zx32 = omega arith
fit_short Sx8 = omega arith
fit_short Sx16 = omega arith
fit_short Sx32 = omega arith

-- a pair
pub pair_reads : (p : Pair) → keyword_at (pair_name p) ≡ Some (word.Pair p)
unfolding keyword_at
pair_reads And = refl
pair_reads Or = refl
pair_reads Xor = refl
pair_reads Mul = refl
pair_reads Shr = refl
pair_reads Sar = refl

-- its name is a word
pub pair_word : (p : Pair) → AreWord (pair_name p)
pair_word And = (refl, (refl, (refl, tt)))
pair_word Or = (refl, (refl, tt))
pair_word Xor = (refl, (refl, (refl, tt)))
pair_word Mul = (refl, (refl, (refl, tt)))
pair_word Shr = (refl, (refl, (refl, tt)))
pair_word Sar = (refl, (refl, (refl, tt)))

-- of 3 bytes at most
pub pair_short : (p : Pair) → length (pair_name p) ≤ 3
pair_short And = omega arith
pair_short Or = omega arith
pair_short Xor = omega arith
pair_short Mul = omega arith
pair_short Shr = omega arith
pair_short Sar = omega arith
