-- How lines begin.
use Rattle.std.proofs.Common.{◌≡◌, ◌≢◌, ℕ, zero, suc, List, [], ◌∷◌, ◌++◌, codes, refl, sym, ap, ◌∙◌, arith}
use Rattle.cmd_text.specs.declared.reply.Refusal.{Refusal}
use Rattle.cmd_text.specs.declared.reply.Refusal.TheVariants.{LineTooLong}
use Rattle.cmd_text.specs.declared.reply.Reply.{Reply}
use Rattle.cmd_text.specs.declared.reply.Reply.TheVariants.{No, Memory}
use Rattle.cmd_text.specs.Lines.{Words, spaced, line_text}
use Rattle.cmd_text.specs.Replies.{refusal_words, reply_words, reply_line, OnlyWantSaysMemory}

-- the byte at a place, and 0 past the end
abbrev pub byte_at : ℕ → List ℕ → ℕ
byte_at k [] = 0
byte_at zero (b ∷ rest) = b
byte_at (suc k) (b ∷ rest) = byte_at k rest

byte_at-append : (k : ℕ) (a b : List ℕ) (n : ℕ) → byte_at k a ≡ n → n ≢ 0 → byte_at k (a ++ b) ≡ n
byte_at-append k [] b n e some = absurd (some (sym e))
byte_at-append zero (x ∷ a) b n e some = e
byte_at-append (suc k) (x ∷ a) b n e some = byte_at-append k a b n e some

-- a line that has another byte at some place isn't the line `memory`
pub begins_else : (k m n : ℕ) (line : Words) (x y : List ℕ) → byte_at k line.name ≡ n → n ≢ 0 → byte_at k ((codes "memory" ++ 10 ∷ []) ++ y) ≡ m → n ≢ m
    → line_text line ++ x ≡ (codes "memory" ++ 10 ∷ []) ++ y → ⊥
unfolding line_text
begins_else k m n line x y e some is other same =
    let named : byte_at k (line.name ++ spaced line.fields) ≡ n = byte_at-append k line.name (spaced line.fields) n e some in
    let whole : byte_at k ((line.name ++ spaced line.fields ++ 10 ∷ []) ++ x) ≡ n =
    byte_at-append k (line.name ++ spaced line.fields ++ 10 ∷ []) x n (byte_at-append k (line.name ++ spaced line.fields) (10 ∷ []) n named some) some in
    other (sym whole ∙ ap (byte_at k) same ∙ is)

second_of_refusal : (refusal : Refusal) → byte_at 1 (refusal_words refusal).name ≡ 111
second_of_refusal LineTooLong = refl
second_of_refusal _ = refl

only_reply : (r : Reply) → r ≢ Memory → (x y : List ℕ) → line_text (reply_words r) ++ x ≡ (codes "memory" ++ 10 ∷ []) ++ y → ⊥
only_reply Memory other x y = absurd (other refl)
only_reply (No refusal) other x y = begins_else 1 101 111 (refusal_words refusal) x y (second_of_refusal refusal) (λ e. omega arith) refl (λ e. omega arith)
only_reply r other x y = begins_else 1 101 107 (reply_words r) x y refl (λ e. omega arith) refl (λ e. omega arith)

pub only_want : OnlyWantSaysMemory
unfolding reply_line
only_want r x y other = only_reply r other x y
