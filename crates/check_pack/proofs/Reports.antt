-- What is behind 16,385 bytes does not change what the program prints.
use Rattle.std.proofs.Common.{◌≡◌, ℕ, ◌%◌, ◌<◌, Bool, true, false, not, ◌||◌, eqb, inl, inr, List, length, take, refl, sym, ap, ◌∙◌, arith, length-take-le, take_all}
use Rattle.std.proofs.Math.Dec.{ltb}
use Rattle.std.proofs.lemmas.Bool.{cases_lt, lt-ltb}
use Rattle.word.specs.Choice.{pick}
use Rattle.word.specs.Numbers as Number
use Rattle.report.specs.Report.{report, refused_pack}

second_holds : {A : Type 0} (a b : Bool) (x y : A) → b ≡ true → pick (a || b) x y ≡ x
second_holds true b x y h = refl
second_holds false b x y h = rw h

refused_long : (xs : List ℕ) → 16384 < length xs → report xs ≡ refused_pack Number.damaged_pack
unfolding report
refused_long xs h = second_holds (not (eqb (length xs % 4) 0)) (ltb 16384 (length xs)) _ _ (lt-ltb 16384 (length xs) h)

pub report_take : (xs : List ℕ) → report (take 16385 xs) ≡ report xs
report_take xs =
    elim (cases_lt 16384 (length xs)) [
      | inl h ↦
          let long : length (take 16385 xs) ≡ 16385 = length-take-le 16385 xs (omega arith) in
          refused_long (take 16385 xs) (omega arith) ∙ sym (refused_long xs h)
      | inr h ↦ ap report (take_all 16385 xs (omega arith))
    ]
