-- Laws of reading a script, up to its end or to where it stopped.
use Rattle.std.proofs.Common.{◌≡◌, ℕ, ◌+◌, ◌≤◌, List, [], ◌∷◌, ◌++◌, length, take, drop, Option, Some, None, IfSome, Result, Ok, Err, OnOk, OnErr, refl, ap, sym, subst, ◌∙◌, append_assoc, append-nil, arith, take-append-drop, length-append, length-take}
use Rattle.outside_io.specs.Moved.{Took}
use Rattle.outside_io.specs.declared.faults.Failed.{Failed}
use Rattle.line_machine.specs.Lines.{rest_from, last_line, lines_of, whole_lines}
use Rattle.line_machine.specs.Machine.{Step}
use Rattle.line_machine.specs.Served.{Served, ServedSoFar}
use Rattle.line_machine.specs.Pieces.{InPiece, Goes, Taken}
use Rattle.line_machine.proofs.Taking.{fault_in_piece, took_none, took_end}
use Rattle.line_machine.proofs.Runs.{Served-then, Served-so_far}
use Rattle.edit_session.specs.declared.serve.Stop.{Stop}
use Rattle.edit_session.specs.declared.serve.Stop.TheVariants.{TakeFailed, GiveFailed, TooLong}
use Rattle.edit_session.specs.Serving.{ReadAll, StoppedAt, StoppedInPiece}

-- The fact at an answer of one kind, from another one.
pub on_ok : {T E : Type 0} (r : Result T E) (P Q : Type 0) → (P → Q) → OnOk r P → OnOk r Q
on_ok (Ok x) P Q f h = f h
on_ok (Err e) P Q f h = tt

pub on_err : {T E : Type 0} (r : Result T E) (P Q : Type 0) → (P → Q) → OnErr r P → OnErr r Q
on_err (Ok x) P Q f h = tt
on_err (Err e) P Q f h = f h

pub on_err_always : {T E : Type 0} (r : Result T E) (P : Type 0) → P → OnErr r P
on_err_always (Ok x) P p = tt
on_err_always (Err e) P p = p

module _ {S : Type 0} (m : Step S) (held : ℕ) where
  -- Nothing was taken yet.
  pub none_taken : (o : Option (List ℕ)) (s : S) (begun : List ℕ) (g : Option (List ℕ)) → begun ≡ [] → IfSome o (λ all. Taken m held all o 0 s s begun g g)
  none_taken None s begun g e = tt
  none_taken (Some all) s begun g e = took_none m held all (Some all) s begun g refl e

  -- A fault while a piece is taken or answered.
  pub took_fault : (all : List ℕ) (o : Option (List ℕ)) (count most : ℕ) (stop : Stop) (r s t : S) (begun : List ℕ) (o2 g0 g1 g2 : Option (List ℕ)) →
      count + most ≤ 67108864 → IfSome o (λ bytes. StoppedInPiece m held most stop bytes o2 s begun t g1 g2) → Taken m held all o count r s begun g0 g1 →
      (left : List ℕ) × (o2 ≡ Some left) × StoppedAt m r stop all left g0 g2
  took_fault all o count most TakeFailed r s t begun o2 g0 g1 g2 fits took k =
      let h : (o2 ≡ Some k.left) × (t ≡ s) × (g2 ≡ g1) = subst (λ x. IfSome x (λ bytes. StoppedInPiece m held most TakeFailed bytes o2 s begun t g1 g2)) k.now_is took in
      (k.left, h.0, (k.taken, s, (k.all_is, omega (arith, k.count_is, fits)), subst (λ x. Served m r (whole_lines k.taken) s g0 x) (sym h.2) k.answered.served))
  took_fault all o count most GiveFailed r s t begun o2 g0 g1 g2 fits took k =
      let h : StoppedInPiece m held most GiveFailed k.left o2 s begun t g1 g2 = subst (λ x. IfSome x (λ bytes. StoppedInPiece m held most GiveFailed bytes o2 s begun t g1 g2)) k.now_is took in
      let whole : (k.taken ++ take h.0 k.left) ++ drop h.0 k.left ≡ all =
      append_assoc k.taken (take h.0 k.left) (drop h.0 k.left) ∙ ap (λ x. k.taken ++ x) (take-append-drop h.0 k.left) ∙ sym k.all_is in
      let within : length (k.taken ++ take h.0 k.left) ≤ 67108864 =
      omega (arith, length-append k.taken (take h.0 k.left), length-take h.0 k.left, h.1, k.count_is, fits) in (
        drop h.0 k.left,
        h.2,
        (
          (k.taken ++ take h.0 k.left, (sym whole, within)),
          subst (λ x. ServedSoFar m r (lines_of x) g0 g2) whole
              (fault_in_piece m held k.taken (take h.0 k.left) (drop h.0 k.left) r s begun g0 g1 g2 k.answered (h.3 (rest_from [] k.taken) k.answered.begun_is)),
        ),
      )
  took_fault all o count most TooLong r s t begun o2 g0 g1 g2 fits took k =
      absurd (subst (λ x. IfSome x (λ bytes. StoppedInPiece m held most TooLong bytes o2 s begun t g1 g2)) k.now_is took)

  -- The end of a script within the limit.
  pub took_all : (all : List ℕ) (o : Option (List ℕ)) (count n : ℕ) (r s t : S) (begun next : List ℕ) (o2 g0 g1 g2 : Option (List ℕ)) → n ≡ 0 → count ≤ 67108864 →
      IfSome o (λ bytes. Goes m held n bytes o2 s begun t next g1 g2) → Taken m held all o count r s begun g0 g1 →
      (o2 ≡ Some []) × (length all ≤ 67108864) × InPiece m held [] all r t next g0 g2
  took_all all o count n r s t begun next o2 g0 g1 g2 z fits took k =
      let h : Goes m held n k.left o2 s begun t next g1 g2 = subst (λ x. IfSome x (λ bytes. Goes m held n bytes o2 s begun t next g1 g2)) k.now_is took in
      let whole : all ≡ k.taken = k.all_is ∙ ap (λ x. k.taken ++ x) (h.end z) ∙ append-nil k.taken in
      let end : (o2 ≡ Some []) × InPiece m held [] all r t next g0 g2 = took_end m held all o count n r s t begun next o2 g0 g1 g2 z took k in
      (end.0, omega (arith, ap length whole, k.count_is, fits), end.1)

  -- A piece was taken, and the lines that end in it were answered.
  pub goes_on : (o : Option (List ℕ)) (n : ℕ) (o2 : Option (List ℕ)) (buf piece : List ℕ) (s t : S) (begun next : List ℕ) (g0 g1 : Option (List ℕ)) → piece ≡ take n buf →
      IfSome o (λ bytes. Took (Ok n) bytes o2 buf) → ((before : List ℕ) → begun ≡ take held before → InPiece m held before piece s t next g0 g1) →
      IfSome o (λ bytes. Goes m held n bytes o2 s begun t next g0 g1)
  goes_on None n o2 buf piece s t begun next g0 g1 is took answered = tt
  goes_on (Some bytes) n o2 buf piece s t begun next g0 g1 is took answered = record {
    enough = took.enough;
    rest = took.rest;
    end = λ z. took.end (ap Ok z);
    answered = λ before e. subst (λ p. InPiece m held before p s t next g0 g1) (is ∙ took.bytes) (answered before e);
  }

  -- At the limit nothing is left of the script.
  pub took_nothing : (all : List ℕ) (o : Option (List ℕ)) (count n : ℕ) (s t : S) (begun : List ℕ) (o2 : Option (List ℕ)) (buf : List ℕ) (g0 g1 : Option (List ℕ)) → n ≡ 0 → count ≤ 67108864 →
      IfSome o (λ bytes. Took (Ok n) bytes o2 buf) → Taken m held all o count s t begun g0 g1 → (o2 ≡ Some []) × (length all ≤ 67108864) × InPiece m held [] all s t begun g0 g1
  took_nothing all o count n s t begun o2 buf g0 g1 z fits took k =
      let h : Took (Ok n) k.left o2 buf = subst (λ x. IfSome x (λ bytes. Took (Ok n) bytes o2 buf)) k.now_is took in
      let none : k.left ≡ [] = h.end (ap Ok z) in
      let whole : k.taken ≡ all = sym (k.all_is ∙ ap (λ x. k.taken ++ x) none ∙ append-nil k.taken) in (
        h.rest ∙ ap (λ i. Some (drop i k.left)) z ∙ ap Some none,
        omega (arith, ap length whole, k.count_is, fits),
        subst (λ x. InPiece m held [] x s t begun g0 g1) whole k.answered,
      )

  -- At the limit one byte more was taken.
  one_more : (xs : List ℕ) (n : ℕ) → n ≡ 1 → n ≤ length xs → (x : ℕ) × (rest : List ℕ) × (xs ≡ x ∷ rest) × (drop n xs ≡ rest)
  one_more [] n e h = absurd (omega (arith, e, h))
  one_more (x ∷ xs) n e h = (x, xs, refl, ap (λ i. drop i (x ∷ xs)) e)

  pub took_past : (all : List ℕ) (o : Option (List ℕ)) (count n : ℕ) (s t : S) (begun : List ℕ) (o2 : Option (List ℕ)) (buf : List ℕ) (g0 g1 : Option (List ℕ)) → count ≡ 67108864 → n ≡ 1 →
      IfSome o (λ bytes. Took (Ok n) bytes o2 buf) → Taken m held all o count s t begun g0 g1 → (left : List ℕ) × (o2 ≡ Some left) × StoppedAt m s TooLong all left g0 g1
  took_past all o count n s t begun o2 buf g0 g1 full one took k =
      let h : Took (Ok n) k.left o2 buf = subst (λ x. IfSome x (λ bytes. Took (Ok n) bytes o2 buf)) k.now_is took in
      let cut = one_more k.left n one h.enough in (
        cut.1,
        h.rest ∙ ap Some cut.3,
        (k.taken, cut.0, t, k.all_is ∙ ap (λ x. k.taken ++ x) cut.2, k.count_is ∙ full, k.answered.served),
      )

  -- At the limit nothing could be taken.
  pub took_failed : (all : List ℕ) (o : Option (List ℕ)) (count : ℕ) (why : Failed) (s t : S) (begun : List ℕ) (o2 : Option (List ℕ)) (buf : List ℕ) (g0 g1 : Option (List ℕ)) → count ≤ 67108864 →
      IfSome o (λ bytes. Took (Err why) bytes o2 buf) → Taken m held all o count s t begun g0 g1 → (left : List ℕ) × (o2 ≡ Some left) × StoppedAt m s TakeFailed all left g0 g1
  took_failed all o count why s t begun o2 buf g0 g1 fits took k =
      let h : Took (Err why) k.left o2 buf = subst (λ x. IfSome x (λ bytes. Took (Err why) bytes o2 buf)) k.now_is took in
      (k.left, h.rest, (k.taken, t, (k.all_is, omega (arith, k.count_is, fits)), k.answered.served))

  -- The last line is answered after the whole lines.
  pub script_served : (o o2 g0 g1 g2 : Option (List ℕ)) (s t u : S) (begun : List ℕ) → IfSome o (λ bytes. (o2 ≡ Some []) × (length bytes ≤ 67108864) × InPiece m held [] bytes s t begun g0 g1) →
      ((line : List ℕ) → begun ≡ take held line → Served m t (last_line line) u g1 g2) → IfSome o (λ bytes. ReadAll m s bytes o2 u g0 g2)
  script_served None o2 g0 g1 g2 s t u begun h last = tt
  script_served (Some bytes) o2 g0 g1 g2 s t u begun h last = (h.0, h.1, Served-then m h.2.served (last (rest_from [] bytes) h.2.begun_is))

  pub script_part : (o o2 g0 g1 g2 : Option (List ℕ)) (s t : S) (begun : List ℕ) → IfSome o (λ bytes. (o2 ≡ Some []) × (length bytes ≤ 67108864) × InPiece m held [] bytes s t begun g0 g1) →
      ((line : List ℕ) → begun ≡ take held line → ServedSoFar m t (last_line line) g1 g2) →
      IfSome o (λ bytes. (left : List ℕ) × (o2 ≡ Some left) × StoppedAt m s GiveFailed bytes left g0 g2)
  script_part None o2 g0 g1 g2 s t begun h last = tt
  script_part (Some bytes) o2 g0 g1 g2 s t begun h last =
      ([], h.0, ((bytes, (sym (append-nil bytes), h.1)), Served-so_far m h.2.served (last (rest_from [] bytes) h.2.begun_is)))
