-- Laws of a script that comes in pieces.
use Rattle.std.proofs.Common.{◌≡◌, ◌≢◌, ℕ, suc, ◌+◌, ◌<◌, List, [], ◌∷◌, ◌++◌, length, take, drop, get_or, Option, Some, None, IfSome, true, false, ◌==◌, zero, refl, ap, sym, subst, ◌∙◌, append_assoc, arith, take-append-drop, length-take, length-append, ⊎_elim, inl, inr}
use Rattle.std.proofs.lemmas.List.{take_more}
use Rattle.line_machine.specs.Lines.{whole_from, rest_from, last_line, lines_of}
use Rattle.line_machine.specs.Machine.{Step, Answers, IsAnsweredByFront}
use Rattle.line_machine.specs.Served.{Served, ServedSoFar, Answered, AnsweredInPart}
use Rattle.line_machine.specs.Pieces.{InPiece, Goes, Taken}
use Rattle.line_machine.proofs.Lines.{whole_from-append, rest_from-append, lines-inside, lines-at_end, front_lines}
use Rattle.line_machine.proofs.Runs.{Served-then, Served-so_far, so_far-before, one_line, part_of_line, none_served}

-- a list that is cut and goes on is cut again as the whole
cut_on : (n : ℕ) (xs ys : List ℕ) → take n (take n xs ++ ys) ≡ take n (xs ++ ys)
cut_on zero xs ys = refl
cut_on (suc n) [] ys = refl
cut_on (suc n) (x ∷ xs) ys = ap (λ l. x ∷ l) (cut_on n xs ys)

drop_nil : (n : ℕ) → drop {A = ℕ} n [] ≡ []
drop_nil zero = refl
drop_nil (suc n) = refl

take_nil : (n : ℕ) → take {A = ℕ} n [] ≡ []
take_nil zero = refl
take_nil (suc n) = refl

-- The fact at a value that is told, from that at values told before.
pub at_some : {A : Type 0} (o : Option A) (P Q : A → Type 0) → ((x : A) → P x → Q x) → IfSome o P → IfSome o Q
at_some None P Q f h = tt
at_some (Some x) P Q f h = f x h

module _ {S : Type 0} (m : Step S) (held : ℕ) where
  -- Nothing is begun before the first byte.
  pub none_in_piece : (s : S) (begun : List ℕ) (before : List ℕ) (g : Option (List ℕ)) → begun ≡ take held before → InPiece m held before [] s s begun g g
  none_in_piece s begun before g e = record { served = none_served m s g; begun_is = e }

  -- One more byte, inside a line.
  pub inside : (before piece : List ℕ) (i : ℕ) (s t : S) (begun next : List ℕ) (g0 g1 : Option (List ℕ)) → i < length piece → (get_or piece i 0 == 10) ≡ false →
      InPiece m held before (take i piece) s t begun g0 g1 → next ≡ take held (begun ++ get_or piece i 0 ∷ []) → InPiece m held before (take (i + 1) piece) s t next g0 g1
  inside before piece i s t begun next g0 g1 lt ne h e =
      let b = get_or piece i 0 in
      let l = lines-inside before (take i piece) b ne in
      subst (λ x. InPiece m held before x s t next g0 g1) (sym (take_more piece i 0 lt)) (record {
        served = subst (λ x. Served m s x t g0 g1) (sym l.0) h.served;
        begun_is = e ∙ ap (λ x. take held (x ++ b ∷ [])) h.begun_is ∙ cut_on held (rest_from before (take i piece)) (b ∷ []) ∙ ap (take held) (sym l.1);
      })

  -- An answer to the first bytes of a line is one to the line.
  pub Answers-cut : IsAnsweredByFront held m → (s : S) (line bytes : List ℕ) (t : S) → Answers m s (take held line) bytes t → Answers m s line bytes t
  Answers-cut cut s line bytes t h = let e = cut s line in
      ⊎_elim (λ p. inl (p.0 ∙ e.0, p.1 ∙ e.1)) (λ p. inr ((λ no. p.0 (e.0 ∙ no)), p.1, p.2)) h

  pub whole_answer : IsAnsweredByFront held m → (s t : S) (begun line : List ℕ) (g0 g1 : Option (List ℕ)) → begun ≡ take held line → Answered m s begun t g0 g1 → Answered m s line t g0 g1
  whole_answer cut s t begun line g0 g1 e h =
      record { bytes = h.bytes; answers = Answers-cut cut s line h.bytes t (subst (λ x. Answers m s x h.bytes t) e h.answers); grew = h.grew }

  pub part_answer : IsAnsweredByFront held m → (s : S) (begun line : List ℕ) (g0 g1 : Option (List ℕ)) → begun ≡ take held line → AnsweredInPart m s begun g0 g1 → AnsweredInPart m s line g0 g1
  part_answer cut s begun line g0 g1 e h =
      record { bytes = h.bytes; sent = h.sent; state = h.state; answers = Answers-cut cut s line h.bytes h.state (subst (λ x. Answers m s x h.bytes h.state) e h.answers); grew = h.grew }

  -- A line feed, and the line that it ends is answered.
  pub at_end : IsAnsweredByFront held m → (before piece : List ℕ) (i : ℕ) (s t u : S) (begun next : List ℕ) (g0 g1 g2 : Option (List ℕ)) → i < length piece → (get_or piece i 0 == 10) ≡ true →
      InPiece m held before (take i piece) s t begun g0 g1 → Answered m t begun u g1 g2 → next ≡ [] → InPiece m held before (take (i + 1) piece) s u next g0 g2
  at_end cut before piece i s t u begun next g0 g1 g2 lt eq h a e =
      let l = lines-at_end before (take i piece) (get_or piece i 0) eq in
      subst (λ x. InPiece m held before x s u next g0 g2) (sym (take_more piece i 0 lt)) (record {
        served = subst (λ x. Served m s x u g0 g2) (sym l.0)
            (Served-then m h.served (one_line m (whole_answer cut t u begun (rest_from before (take i piece)) g1 g2 h.begun_is a)));
        begun_is = e ∙ sym (take_nil held) ∙ ap (take held) (sym l.1);
      })

  -- A line feed, and the line that it ends is answered in part.
  pub fault_at_end : IsAnsweredByFront held m → (before piece : List ℕ) (i : ℕ) (s t : S) (begun : List ℕ) (g0 g1 g2 : Option (List ℕ)) → i < length piece → (get_or piece i 0 == 10) ≡ true →
      InPiece m held before (take i piece) s t begun g0 g1 → AnsweredInPart m t begun g1 g2 → ServedSoFar m s (whole_from before piece) g0 g2
  fault_at_end cut before piece i s t begun g0 g1 g2 lt eq h a =
      let l = lines-at_end before (take i piece) (get_or piece i 0) eq in
      let lines = sym l.0 ∙ ap (whole_from before) (sym (take_more piece i 0 lt)) in
      let part = Served-so_far m h.served (part_of_line m (part_answer cut t begun (rest_from before (take i piece)) g1 g2 h.begun_is a)) in
      subst (λ x. ServedSoFar m s x g0 g2) (sym (front_lines before piece (i + 1)))
      (so_far-before m _ (subst (λ x. ServedSoFar m s x g0 g2) lines part))

  -- One piece after another.
  pub next_piece : (taken piece : List ℕ) (s t u : S) (begun next : List ℕ) (g0 g1 g2 : Option (List ℕ)) →
      InPiece m held [] taken s t begun g0 g1 → InPiece m held (rest_from [] taken) piece t u next g1 g2 → InPiece m held [] (taken ++ piece) s u next g0 g2
  next_piece taken piece s t u begun next g0 g1 g2 h f = record {
    served = subst (λ x. Served m s x u g0 g2) (sym (whole_from-append [] taken piece)) (Served-then m h.served f.served);
    begun_is = f.begun_is ∙ ap (take held) (sym (rest_from-append [] taken piece));
  }

  -- A piece that is answered in part, of a text that goes on.
  pub fault_in_piece : (taken piece more : List ℕ) (s t : S) (begun : List ℕ) (g0 g1 g2 : Option (List ℕ)) →
      InPiece m held [] taken s t begun g0 g1 → ServedSoFar m t (whole_from (rest_from [] taken) piece) g1 g2 → ServedSoFar m s (lines_of ((taken ++ piece) ++ more)) g0 g2
  fault_in_piece taken piece more s t begun g0 g1 g2 h f =
      let part = Served-so_far m h.served f in
      let part2 = subst (λ x. ServedSoFar m s x g0 g2) (sym (whole_from-append [] taken piece)) part in
      let part3 = so_far-before m (whole_from (rest_from [] (taken ++ piece)) more) part2 in
      so_far-before m (last_line (rest_from [] ((taken ++ piece) ++ more))) (subst (λ x. ServedSoFar m s x g0 g2) (sym (whole_from-append [] (taken ++ piece) more)) part3)

  -- Nothing was taken yet.
  pub took_none : (all : List ℕ) (o : Option (List ℕ)) (s : S) (begun : List ℕ) (g : Option (List ℕ)) → o ≡ Some all → begun ≡ [] → Taken m held all o 0 s s begun g g
  took_none all o s begun g e b =
      record { taken = []; left = all; now_is = e; all_is = refl; count_is = refl; answered = none_in_piece s begun [] g (b ∙ sym (take_nil held)) }

  -- One more piece was taken.
  pub took_more : (all : List ℕ) (o : Option (List ℕ)) (count n : ℕ) (r s t : S) (begun next : List ℕ) (o2 g0 g1 g2 : Option (List ℕ)) →
      IfSome o (λ bytes. Goes m held n bytes o2 s begun t next g1 g2) → Taken m held all o count r s begun g0 g1 → Taken m held all o2 (count + n) r t next g0 g2
  took_more all o count n r s t begun next o2 g0 g1 g2 took k =
      let h : Goes m held n k.left o2 s begun t next g1 g2 = subst (λ x. IfSome x (λ bytes. Goes m held n bytes o2 s begun t next g1 g2)) k.now_is took in
      record {
        taken = k.taken ++ take n k.left;
        left = drop n k.left;
        now_is = h.rest;
        all_is = k.all_is ∙ ap (λ x. k.taken ++ x) (sym (take-append-drop n k.left)) ∙ sym (append_assoc k.taken (take n k.left) (drop n k.left));
        count_is = omega (arith, length-append k.taken (take n k.left), length-take n k.left, h.enough, k.count_is);
        answered = next_piece k.taken (take n k.left) r s t begun next g0 g1 g2 k.answered (h.answered (rest_from [] k.taken) k.answered.begun_is);
      }

  -- The end of the script.
  pub took_end : (all : List ℕ) (o : Option (List ℕ)) (count n : ℕ) (r s t : S) (begun next : List ℕ) (o2 g0 g1 g2 : Option (List ℕ)) → n ≡ 0 →
      IfSome o (λ bytes. Goes m held n bytes o2 s begun t next g1 g2) → Taken m held all o count r s begun g0 g1 →
      (o2 ≡ Some []) × InPiece m held [] all r t next g0 g2
  unfolding took_more
  took_end all o count n r s t begun next o2 g0 g1 g2 z took k =
      let h : Goes m held n k.left o2 s begun t next g1 g2 = subst (λ x. IfSome x (λ bytes. Goes m held n bytes o2 s begun t next g1 g2)) k.now_is took in
      let more = took_more all o count n r s t begun next o2 g0 g1 g2 took k in
      let none : k.left ≡ [] = h.end z in
      let rest : drop n k.left ≡ [] = ap (drop n) none ∙ drop_nil n in
      let whole : k.taken ++ take n k.left ≡ all = ap (λ x. k.taken ++ x) (ap (take n) none ∙ take_nil n ∙ sym none) ∙ sym k.all_is in
      (h.rest ∙ ap Some rest, subst (λ x. InPiece m held [] x r t next g0 g2) whole more.answered)

  -- The last line, where there is one.
  pub last_none : (s : S) (line begun : List ℕ) (g : Option (List ℕ)) → 0 < held → begun ≡ take held line → begun ≡ [] → Served m s (last_line line) s g g
  last_none s [] begun g some e n = none_served m s g
  last_none s (b ∷ line) begun g some e n = absurd (no_front held b line some (sym e ∙ n))
    where
      no_front : (k b : ℕ) (l : List ℕ) → 0 < k → take k (b ∷ l) ≡ [] → ⊥
      no_front zero b l h z = omega (arith, h)
      no_front (suc k) b l h z = cc

  pub last_some : IsAnsweredByFront held m → (s t : S) (line begun : List ℕ) (g0 g1 : Option (List ℕ)) → begun ≡ take held line → begun ≢ [] → Answered m s begun t g0 g1 → Served m s (last_line line) t g0 g1
  last_some cut s t [] begun g0 g1 e n a = absurd (n (e ∙ take_nil held))
  last_some cut s t (b ∷ line) begun g0 g1 e n a = one_line m (whole_answer cut s t begun (b ∷ line) g0 g1 e a)

  pub last_in_part : IsAnsweredByFront held m → (s : S) (line begun : List ℕ) (g0 g1 : Option (List ℕ)) → begun ≡ take held line → begun ≢ [] → AnsweredInPart m s begun g0 g1 → ServedSoFar m s (last_line line) g0 g1
  last_in_part cut s [] begun g0 g1 e n a = absurd (n (e ∙ take_nil held))
  last_in_part cut s (b ∷ line) begun g0 g1 e n a = part_of_line m (part_answer cut s begun (b ∷ line) g0 g1 e a)
