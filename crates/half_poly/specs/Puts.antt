-- Values that are put in, in order.
use Rattle.std.specs.Prelude.{◌≡◌, ◌≢◌, ◌⊎◌, ℕ, ◌<◌, List, length, get_or, Option, Some, IsSome}

-- Some place of the list.
pub record IsPlace (places : List ℕ) (y : ℕ) : Type 0 where
  pub number : ℕ
  pub within : number < length places
  pub is : get_or places number 0 ≡ y

module _ {T : Type 0} (before : ℕ → Option T) (values : List T) where
  -- The first n values are at these places, and what was there stays.
  pub record PutBelow (after : ℕ → Option T) (places : List ℕ) (n : ℕ) : Type 0 where
    pub long : length places ≡ n
    pub stays : (y : ℕ) (x : T) → before y ≡ Some x → after y ≡ Some x
    pub put_at : (k : ℕ) (d : T) → k < n → after (get_or places k 0) ≡ Some (get_or values k d)
    pub only : (y : ℕ) (x : T) → after y ≡ Some x → (before y ≡ Some x) ⊎ IsPlace places y
    pub apart : (j k : ℕ) → j < k → k < n → get_or places j 0 ≢ get_or places k 0

-- The first n places differ and have values, and nothing else has.
pub record AreLive {T : Type 0} (places : List ℕ) (values : ℕ → Option T) (n : ℕ) : Type 0 where
  pub long : length places ≡ n
  pub live : (k : ℕ) → k < n → IsSome (values (get_or places k 0))
  pub only : (y : ℕ) (x : T) → values y ≡ Some x → IsPlace places y
  pub apart : (j k : ℕ) → j < k → k < n → get_or places j 0 ≢ get_or places k 0

-- The first n places have these values, and nothing but the places has any.
pub record WrittenBelow {T : Type 0} (places : List ℕ) (value : ℕ → T) (values : ℕ → Option T) (n : ℕ) : Type 0 where
  pub written : (k : ℕ) → k < n → values (get_or places k 0) ≡ Some (value k)
  pub only : (y : ℕ) (x : T) → values y ≡ Some x → IsPlace places y
