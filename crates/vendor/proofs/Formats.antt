-- The laws of the format: what pieces, numbers and rows are in its own words. Assumes nothing.
use Rattle.std.proofs.Common.{◌≡◌, ℕ, zero, suc, ◌<◌, ◌≤◌, eqb, List, [], ◌∷◌, ◌++◌, length, get_or, ℤ, pos, negsuc, neg_ℤ, ◌≤ℤ◌, Some, None, decimal, Option, sym, refl, ap, ◌∙◌, subst, append-nil, arith}
use Rattle.std.specs.Str.Parse.{digits_value}
use Rattle.std.specs.Fmt.{signed_decimal}
use Rattle.std.specs.Option.{option_map}
use Rattle.std.specs.List.{AllByRecursion, join_with_byte, onto_first}
use Rattle.std.proofs.lemmas.Fmt.{decimal-digits_value, digits_decimal, digits_value-decimal, length-decimal-le, decimal_nonempty, first_decimal}
use Rattle.std.proofs.ByRecursion.{every_from_all}
use Rattle.std.proofs.lemmas.Int.{ints}
use Rattle.std.proofs.lemmas.List.Splits.{join_with_byte-slice_split, length-slice_split}
use Rattle.std.proofs.lemmas.Bool.{eqb-true, eqb-false, eq-eqb, ne_eqb, cond-true, cond-false, cond_both, true≢false}
use Rattle.vendor.specs.Files.{lines, lines_of}
use Rattle.vendor.specs.Format.{WrittenAs, NumbersAreDecimals, unsplit, RowsProper, RowsAreWhatByte10Ends}
use Rattle.vendor.specs.Numbers.{plain, number, magnitude_of, below_zero}
use Rattle.vendor.specs.Pieces.{pieces, Lacks, CutAt, PiecesAreWhatStandsBetween}
use Rattle.vendor.proofs.Cuts.{cut_last}
use Rattle.vendor.proofs.Decimals.{by_test, DigitsBelow, digits_told, digits_each, Short, is_plain, plain_parts, plain_value, number_unsigned, number_minus}

-- a byte that is no separator in front of pieces that hold none
clean_onto : (sep b : ℕ) (ps : List (List ℕ)) → (b ≡ sep → ⊥) → AllByRecursion (Lacks sep) ps → AllByRecursion (Lacks sep) (onto_first b ps)
clean_onto sep b [] ne c = ((ne, tt), tt)
clean_onto sep b (p ∷ ps) ne c = ((ne, c.0), c.1)

clean : (sep : ℕ) (bs : List ℕ) → AllByRecursion (Lacks sep) (pieces sep bs)
unfolding pieces
clean sep [] = (tt, tt)
clean sep (b ∷ bs) =
    cond_both (eqb b sep) _ _ (AllByRecursion (Lacks sep)) (λ e. (tt, clean sep bs)) (λ e. clean_onto sep b (pieces sep bs) (eqb-false b sep e) (clean sep bs))

-- the pieces of a text are the text cut
cut : (sep : ℕ) (bs : List ℕ) → CutAt sep bs (pieces sep bs)
unfolding pieces
cut sep bs = record { some = omega (arith, length-slice_split (λ b. eqb b sep) bs); whole = join_with_byte-slice_split sep bs; clean = clean sep bs }

-- what stands before the first separator is the first piece
front : (sep : ℕ) (p rest : List ℕ) → Lacks sep p → pieces sep (p ++ (sep ∷ rest)) ≡ p ∷ pieces sep rest
unfolding pieces
front sep [] rest c = cond-true (eqb sep sep) _ _ (eq-eqb sep sep refl)
front sep (b ∷ p) rest c = cond-false (eqb b sep) _ _ (ne_eqb b sep c.0) ∙ ap (onto_first b) (front sep p rest c.1)

-- pieces put together are cut into the same pieces again
again : (sep : ℕ) (ps : List (List ℕ)) → 0 < length ps → AllByRecursion (Lacks sep) ps → ps ≡ pieces sep (join_with_byte sep ps)
again sep [] some c = absurd (omega arith)
again sep (p ∷ []) some c = sym (cut_last sep p (λ k h. every_from_all _ p c.0 k 0 (omega arith) h))
again sep (p ∷ q ∷ ps) some c = ap (λ r. p ∷ r) (again sep (q ∷ ps) (omega arith) c.1) ∙ sym (front sep p (join_with_byte sep (q ∷ ps)) c.0)

-- every text is cut in one way only, and `pieces` gives it
pub pieces_between : PiecesAreWhatStandsBetween
pieces_between sep bs = (cut sep bs, λ ps c. again sep ps c.some c.clean ∙ ap (pieces sep) c.whole)

-- digits with a magnitude are its decimal text, and it is small
told_magnitude : (ds : List ℕ) (n : ℕ) → magnitude_of ds ≡ Some n → (ds ≡ decimal n) × (n < 100000000)
told_magnitude ds n =
    cond_both (plain ds) _ _ (λ o. o ≡ Some n → (ds ≡ decimal n) × (n < 100000000))
    (λ is e. let p = plain_parts ds is in
    let few = plain_value ds p in
    let same : digits_value 10 ds ≡ n = cc in
    let text = decimal-digits_value by_test ds (digits_told ds p.each) p.short.some (λ z. omega (arith, p.short.spare z)) (omega arith) in
    (sym text ∙ ap decimal same, omega arith))
    (λ is e. absurd (cc))

-- a text whose own magnitude is the number
unsigned : (ds : List ℕ) (m : Option ℕ) (z : ℤ) → magnitude_of ds ≡ m → option_map pos m ≡ Some z → WrittenAs ds z
unsigned ds None z is e = absurd (cc)
unsigned ds (Some n) z is e =
    let k = told_magnitude ds n is in
    let same : pos n ≡ z = cc in
    record { text = k.0 ∙ ap signed_decimal same; small = (omega (arith, ints), omega (arith, ints)) }

-- a text that is a minus, and after it the magnitude of a number below zero
minus : (ds : List ℕ) (m : Option ℕ) (z : ℤ) → magnitude_of ds ≡ m → below_zero m ≡ Some z → WrittenAs (45 ∷ ds) z
minus ds None z is e = absurd (cc)
minus ds (Some zero) z is e = absurd (cc)
minus ds (Some (suc n)) z is e =
    let k = told_magnitude ds (suc n) is in
    let same : negsuc n ≡ z = cc in
    record { text = ap (λ r. 45 ∷ r) k.0 ∙ ap signed_decimal same; small = (omega (arith, ints), omega (arith, ints)) }

-- a text that is a number is the decimal text of that number
written : (bs : List ℕ) (z : ℤ) → number bs ≡ Some z → WrittenAs bs z
unfolding number
written [] z = λ e. absurd (cc)
written (b ∷ bs) z =
    cond_both (eqb b 45) _ _ (λ o. o ≡ Some z → WrittenAs (b ∷ bs) z)
    (λ is e. subst (λ c. WrittenAs (c ∷ bs) z) (sym (eqb-true b 45 is)) (minus bs (magnitude_of bs) z refl e))
    (λ is e. unsigned (b ∷ bs) (magnitude_of (b ∷ bs)) z refl e)

-- a decimal text begins with 0 only where it is 0 alone
spare : (n : ℕ) → n < 100000000 → get_or (decimal n) 0 0 ≡ 48 → length (decimal n) ≤ 1
spare zero small e = length-decimal-le 1 0 (omega arith) (omega arith) (omega arith)
spare (suc n) small e = absurd (omega (arith, first_decimal (suc n) (omega arith) (omega arith)))

-- each byte of a decimal text is a digit
each_digit : (n : ℕ) → n < 100000000 → DigitsBelow (decimal n) (length (decimal n))
each_digit n small = digits_each (decimal n) (digits_decimal by_test n (omega arith))

-- the magnitude of a small number's decimal text is that number
magnitude_read : (n : ℕ) → n < 100000000 → magnitude_of (decimal n) ≡ Some n
magnitude_read n small =
    let short : Short (decimal n) = record { some = decimal_nonempty n (omega arith); few = length-decimal-le 8 n (omega arith) (omega arith) (omega arith); spare = spare n small } in
    cond-true (plain (decimal n)) _ _ (is_plain (decimal n) short (each_digit n small)) ∙ ap Some (digits_value-decimal by_test n (omega arith))

-- the decimal text of a small number, with its minus, is that number
read : (z : ℤ) → (neg_ℤ (pos 99999999) ≤ℤ z) × (z ≤ℤ pos 99999999) → number (signed_decimal z) ≡ Some z
read (pos n) small =
    let h : n < 100000000 = omega (arith, ints) in
    number_unsigned (decimal n) (λ e. omega (arith, each_digit n h 0 (decimal_nonempty n (omega arith)))) ∙ ap (option_map pos) (magnitude_read n h)
read (negsuc n) small = number_minus (signed_decimal (negsuc n)) refl ∙ ap below_zero (magnitude_read (suc n) (omega (arith, ints)))

-- the texts that are numbers are the decimal texts of small numbers
pub numbers_decimal : NumbersAreDecimals
numbers_decimal bs z = (written bs z, λ w. ap number w.text ∙ read z w.small)

-- rows put together with their ends are the pieces joined by byte 10
together : (ps : List (List ℕ)) → unsplit (lines_of ps) ≡ join_with_byte 10 ps
together [] = refl
together ([] ∷ []) = refl
together ((b ∷ bs) ∷ []) = append-nil (b ∷ bs)
together (p ∷ q ∷ ps) = ap (λ r. p ++ (10 ∷ r)) (together (q ∷ ps))

-- pieces that lack byte 10 make rows that lack it, of which only the last can be unended, and then is not empty
proper : (ps : List (List ℕ)) → AllByRecursion (Lacks 10) ps → RowsProper (lines_of ps)
proper [] c = tt
proper ([] ∷ []) c = tt
proper ((b ∷ bs) ∷ []) c = (c.0, λ e. (refl, omega arith), tt)
proper (p ∷ q ∷ ps) c = (c.0, λ e. absurd (true≢false e), proper (q ∷ ps) c.1)

-- rows with their ends are the file, and each is as a row should be
pub rows_ended : RowsAreWhatByte10Ends
unfolding lines
rows_ended file = let c = cut 10 file in (together (pieces 10 file) ∙ c.whole, proper (pieces 10 file) c.clean)
