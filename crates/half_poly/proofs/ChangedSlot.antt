-- One slot that is changed by a function of what it holds.
use Rattle.std.proofs.Common.{◌≡◌, ℕ, Option, Some, IsSome, sym, ap, ◌∙◌}
use Rattle.std.specs.Option.{option_map}
use Rattle.half_arena.specs.Slots.{put}
use Rattle.half_arena.proofs.SlotLaws.{put-same, put-other}
use Rattle.half_poly.proofs.Making.{is_some_of}

module _ {T : Type 0} (now after : ℕ → Option T) (place slot : ℕ) (x v : T) (i : slot ≡ place) (e : now place ≡ Some x) (changes : IsSome (now slot) → after ≡ put now slot (Some v)) where
  changed : after ≡ put now slot (Some v)
  changed = changes (is_some_of (ap now i ∙ e))

  pub holds : after place ≡ Some v
  holds = ap after (sym i) ∙ ap (λ m. m slot) changed ∙ put-same now slot (Some v)

  pub holds_changed : (f : T → T) → v ≡ f x → after place ≡ option_map f (now place)
  holds_changed f q = holds ∙ ap (λ (y : T). Some y) q ∙ ap (option_map f) (sym e)

  pub others_stay : (k : ℕ) → ¬ (k ≡ place) → after k ≡ now k
  others_stay k n = ap (λ m. m k) changed ∙ put-other now slot (Some v) k (λ z. n (z ∙ i))
