-- How a whole file is answered, by its size and its first faulty row. Assumes nothing.
use Rattle.std.proofs.Common.{◌≡◌, ℕ, Bool, true, false, List, Some, None, Ok, Err, Option, Result, sym, refl, ap, ◌∙◌, subst, MatchResult}
use Rattle.std.proofs.lemmas.Bool.{cond-true, cond-false, and_from, le-leb, eq-eqb, both_ways}
use Rattle.vendor.specs.declared.faults.FileFault.{FileFault}
use Rattle.vendor.specs.declared.faults.FileFault.TheVariants.{Whole}
use Rattle.vendor.specs.declared.rows.Shape.{Shape}
use Rattle.vendor.specs.declared.tables.Counts.{Counts}
use Rattle.vendor.specs.Files.{lines, entries, counted, none_counted, unless, Contents, RightLengths, sized, filled, fault_of, rows_answer, whole_fault, answer, tables_after}
use Rattle.vendor.specs.Fills.{Readable}
use Rattle.vendor.specs.Rows.{unless_no}
use Rattle.vendor.specs.Format as Format
use Rattle.vendor.specs.Format.{Answered, wrong_lengths, faulty, WordsMean}
use Rattle.vendor.proofs.Filling.{faultless, sized_parts}
use Rattle.vendor.proofs.Formats.{pieces_between, numbers_decimal, rows_ended}
use Rattle.vendor.proofs.Judging.{first_faulty, all_sound, tables_hold}

module _ (sh : Shape) (file : List ℕ) (c : Contents) where
  abbrev counts : Counts
  counts = counted none_counted (entries (lines file))

  fault_unsized : sized sh c ≡ false → whole_fault sh file c ≡ Some Whole
  unfolding whole_fault
  fault_unsized e = cond-false (sized sh c) _ _ e

  fault_sized : sized sh c ≡ true → whole_fault sh file c ≡ fault_of sh file
  unfolding whole_fault
  fault_sized e = cond-true (sized sh c) _ _ e

  unsized_after : sized sh c ≡ false → c ≡ tables_after sh file c
  unsized_after fit = sym (ap (λ o. unless o c (filled sh (entries (lines file)))) (fault_unsized fit))

  -- how tables of right lengths come out, by the fault of the file's rows
  sized_after : (o : Option FileFault) → sized sh c ≡ true → fault_of sh file ≡ o → MatchResult (unless_no o counts) (λ _. Readable sh file c) (λ _. c ≡ tables_after sh file c)
  sized_after None fit e = record {
    sound = e;
    sized = sized_parts sh c fit;
    after = sym (ap (λ o. unless o c (filled sh (entries (lines file)))) (fault_sized fit ∙ e));
  }
  sized_after (Some f) fit e = sym (ap (λ o. unless o c (filled sh (entries (lines file)))) (fault_sized fit ∙ e))

sized_from : (sh : Shape) (c : Contents) → RightLengths sh c → sized sh c ≡ true
sized_from sh c r =
    and_from _ _ (le-leb _ _ r.size) (and_from _ _ (eq-eqb _ _ r.marks) (and_from _ _ (eq-eqb _ _ r.outputs) (and_from _ _ (eq-eqb _ _ r.system)
    (and_from _ _ (eq-eqb _ _ r.upper) (and_from _ _ (eq-eqb _ _ r.lower) (and_from _ _ (eq-eqb _ _ r.rise) (eq-eqb _ _ r.fall)))))))

-- the answer and the tables after it are those that the format asks for
module _ (sh : Shape) (file : List ℕ) (c : Contents) where
  means_refused : (g : FileFault) → sized sh c ≡ true → fault_of sh file ≡ Some g → Answered sh file c (Err g) c
  means_refused g fit e =
      let r = first_faulty sh file g e in
      subst (λ x. Answered sh file c (Err x) c) (sym r.2) (faulty r.0 r.1 (sized_parts sh c fit) r.3)

  means_taken : sized sh c ≡ true → fault_of sh file ≡ None → Answered sh file c (Ok (counts sh file c)) (filled sh (entries (lines file)))
  means_taken fit e =
      let h = faultless sh 1 None (lines file) e in
      Format.taken (filled sh (entries (lines file))) (sized_parts sh c fit) (all_sound sh file h) (tables_hold sh file h)

  means_sized : (o : Option FileFault) → sized sh c ≡ true → fault_of sh file ≡ o → Answered sh file c (unless_no o (counts sh file c)) (unless o c (filled sh (entries (lines file))))
  means_sized None fit e = means_taken fit e
  means_sized (Some g) fit e = means_refused g fit e

  means_by : (b : Bool) → sized sh c ≡ b → Answered sh file c (answer sh file c) (tables_after sh file c)
  means_by true fit =
      subst (λ o. Answered sh file c (unless_no o (counts sh file c)) (unless o c (filled sh (entries (lines file))))) (sym (fault_sized sh file c fit)) (means_sized (fault_of sh file) fit refl)
  means_by false fit =
      subst (λ o. Answered sh file c (unless_no o (counts sh file c)) (unless o c (filled sh (entries (lines file))))) (sym (fault_unsized sh file c fit))
      (wrong_lengths (λ r. both_ways (sized sh c) fit (sized_from sh c r)))

  pub means : (r : Result Counts FileFault) → r ≡ answer sh file c → (after : Contents) → after ≡ tables_after sh file c → Answered sh file c r after
  means r told after held = subst (λ x. Answered sh file c x after) (sym told) (subst (Answered sh file c (answer sh file c)) (sym held) (means_by (sized sh c) refl))

  -- the judgement where the tables do not fit, and where they do
  pub unfit_answer : sized sh c ≡ false → Err Whole ≡ answer sh file c
  unfit_answer fit = sym (ap (λ o. unless_no o (counts sh file c)) (fault_unsized sh file c fit))

  pub unfit_after : sized sh c ≡ false → c ≡ tables_after sh file c
  unfit_after fit = unsized_after sh file c fit

  pub fit_answer : (r : Result Counts FileFault) → sized sh c ≡ true → r ≡ rows_answer sh file → r ≡ answer sh file c
  fit_answer r fit told = told ∙ ap (λ o. unless_no o (counts sh file c)) (sym (fault_sized sh file c fit))

  pub fit_cases : (r : Result Counts FileFault) → sized sh c ≡ true → r ≡ rows_answer sh file → MatchResult r (λ _. Readable sh file c) (λ _. c ≡ tables_after sh file c)
  fit_cases r fit told = subst (λ x. MatchResult x (λ _. Readable sh file c) (λ _. c ≡ tables_after sh file c)) (sym told) (sized_after sh file c (fault_of sh file) fit refl)

pub words_mean : WordsMean
words_mean = record { pieces = pieces_between; numbers = numbers_decimal; rows = rows_ended }
