-- The state for which a session stands: its current map, and what the steps of its parts make of it.
use Rattle.std.proofs.Common.{◌≡◌, ℕ, suc, ◌+◌, ◌<◌, ◌≤◌, Bool, true, false, List, [], ◌∷◌, ◌++◌, length, take, refl, ap, ap₂, sym, subst, ◌∙◌, arith, add-one, length-append, true≢false, inl, inr, ⊎_elim}
use Rattle.std.specs.Prelude.{slice_index_or, nat_lt}
use Rattle.std.proofs.lemmas.Bool.Decides.{nat_tests}
use Rattle.uv_lock.specs.declared.texture.Format.{Format}
use Rattle.uv_lock.specs.declared.texture.Format.TheVariants.{Standard, Valve}
use Rattle.map_model.specs.Tree.{Whole, Held, whole, format_of}
use Rattle.map_model.specs.Edits.{Changes, swap}
use Rattle.map_model.specs.Commands.{Settings, Command}
use Rattle.map_model.specs.Replies.{Refusal, Reply, Done, No, Memory, LockNeedsValve, NothingToUndo, NothingToRedo}
use Rattle.map_model.specs.History.{Records, maps_before, maps_after}
use Rattle.map_model.specs.Machine.{State, Short, current, done, refused, with_map, lock_answer, undo_answer, redo_answer, applied_answer}
use Rattle.map_model.specs.Promises.{Plans, Refuses}
use Rattle.undo_log.specs.Log.{GoesBack, GoesOn, HasOneMore, maps_of, place_of}
use Rattle.tree_session.specs.Sitting.{state_at}
use Rattle.tree_session.specs.Words.{is_standard, Carries, SetsLock, GoesBackBy, GoesOnBy, ChangesBy}

-- As many maps as changes. ----------------------------------------------------------------------------------------------------

count_before : (m : Whole) (cs : List Changes) → length (maps_before m cs) ≡ length cs
count_before m [] = refl
count_before m (c ∷ cs) =
    length-append (maps_before (swap m c) cs) (swap m c ∷ []) ∙ ap (λ n. n + 1) (count_before (swap m c) cs) ∙ add-one (length cs)

count_after : (m : Whole) (cs : List Changes) → length (maps_after m cs) ≡ length cs
count_after m [] = refl
count_after m (c ∷ cs) = ap suc (count_after (swap m c) cs)

count : (h : Records) (m : Whole) → length (maps_of h m) ≡ place_of h + suc (length h.ahead)
count h m = length-append (maps_before m h.behind) (m ∷ maps_after m h.ahead) ∙ ap₂ (λ a b. a + suc b) (count_before m h.behind) (count_after m h.ahead)

item_at : {A : Type 0} (xs : List A) (y : A) (ys : List A) (d : A) → slice_index_or (xs ++ y ∷ ys) (length xs) d ≡ y
item_at [] y ys d = refl
item_at (x ∷ xs) y ys d = item_at xs y ys d

item_at_count : {A : Type 0} (n : ℕ) (xs : List A) (y : A) (ys : List A) (d : A) → length xs ≡ n → slice_index_or (xs ++ y ∷ ys) n d ≡ y
item_at_count n xs y ys d e = ap (λ k. slice_index_or (xs ++ y ∷ ys) k d) (sym e) ∙ item_at xs y ys d

-- The map beside the history is the current one.
pub current_is : (map : Held) (h : Records) (settings : Settings) → current (state_at map h settings) ≡ whole map
current_is map h settings = item_at_count (length h.behind) (maps_before (whole map) h.behind) (whole map) (maps_after (whole map) h.ahead) _ (count_before (whole map) h.behind)

-- Back and forth. ----------------------------------------------------------------------------------------------------------------

pub undone : (old : Records) (before : Held) (new : Records) (after : Held) → GoesBack old before new after → GoesBackBy old before Done new after
undone old before new after back settings =
    ap (undo_answer (state_at before old settings)) (sym back.place ∙ add-one (place_of new))
    ∙ ap (λ ms. done (record { maps = ms; place = place_of new; settings = settings })) (sym back.maps)

pub not_undone : (old : Records) (before : Held) → old.behind ≡ [] → GoesBackBy old before (No NothingToUndo) old before
not_undone old before none settings = ap (λ l. undo_answer (state_at before old settings) (length l)) none

lower : (n k : ℕ) → n < k → nat_lt n k ≡ true
lower n k h = grind (arith, nat_tests)

not_lower : (n k : ℕ) → k ≤ n → nat_lt n k ≡ false
not_lower n k h = grind (arith, nat_tests)

pub redone : (old : Records) (before : Held) (new : Records) (after : Held) → GoesOn old before new after → GoesOnBy old before Done new after
redone old before new after on settings =
    let long = sym (ap length on.maps) ∙ count new (whole after) in let p = on.place in
    let s = state_at before old settings in
    ap (redo_answer s) (lower (place_of old + 1) (length (maps_of old (whole before))) (omega arith))
    ∙ ap₂ (λ ms n. done (record { maps = ms; place = n; settings = settings })) (sym on.maps) (sym p)

pub not_redone : (old : Records) (before : Held) → old.ahead ≡ [] → GoesOnBy old before (No NothingToRedo) old before
not_redone old before none settings =
    let long = count old (whole before) in let zero_ahead : length old.ahead ≡ 0 = ap length none in
    ap (redo_answer (state_at before old settings)) (not_lower (place_of old + 1) (length (maps_of old (whole before))) (omega arith))

-- The lock. ------------------------------------------------------------------------------------------------------------------------

lock_refused : (s : State) (on : Bool) (format : Format) → on ≡ true → is_standard format ≡ true → lock_answer s on format ≡ refused s LockNeedsValve
lock_refused s true Standard e f = refl
lock_refused s true Valve e f = absurd (true≢false (sym f))
lock_refused s false format e f = absurd (true≢false (sym e))

lock_set : (s : State) (on : Bool) (format : Format) → (on ≡ true → is_standard format ≡ false) → lock_answer s on format ≡ done (record s { settings = record s.settings { lock = on } })
lock_set s true Standard h = absurd (true≢false (h refl))
lock_set s true Valve h = refl
lock_set s false format h = refl

pub refuses_lock : (m : Whole) (on : Bool) (old : Settings) → on ≡ true → is_standard (format_of m) ≡ true → SetsLock m on old (No LockNeedsValve) old
refuses_lock m on old e f maps place = lock_refused (record { maps = maps; place = place; settings = old }) on (format_of m) e f

pub sets_lock : (m : Whole) (on : Bool) (old : Settings) → (on ≡ true → is_standard (format_of m) ≡ false) → SetsLock m on old Done (record old { lock = on })
sets_lock m on old h maps place = lock_set (record { maps = maps; place = place; settings = old }) on (format_of m) h

-- A change. -------------------------------------------------------------------------------------------------------------------------

one_more : (settings : Settings) (old : Records) (before : Held) (new : Records) (after : Held) (n : Whole) → HasOneMore old before new after → whole after ≡ n →
    with_map n (state_at before old settings) ≡ state_at after new settings
one_more settings old before new after n more now =
    ap₂ (λ ms p. record { maps = ms; place = p; settings = settings })
    (ap (λ m. take (place_of old + 1) (maps_of old (whole before)) ++ m ∷ []) (sym now) ∙ sym more.maps) (sym more.place)

pub changed : (settings : Settings) (c : Command) (old : Records) (before : Held) (change : Changes) (reply : Reply) (new : Records) (after : Held) →
    Plans settings (whole before) c change reply → HasOneMore old before new after → whole after ≡ swap (whole before) change →
    ChangesBy settings c old before reply new after
changed settings c old before change reply new after plans more now = inl (λ b right.
    ap (applied_answer (state_at before old settings)) (plans.applies b right)
    ∙ ap (λ s. record { state = s; answer = Short reply }) (one_more settings old before new after (swap (whole before) change) more now))

pub not_changed : (settings : Settings) (c : Command) (old : Records) (before : Held) (refusal : Refusal) →
    Refuses settings (whole before) c refusal → ChangesBy settings c old before (No refusal) old before
not_changed settings c old before refusal refuses = inl (λ b right. ap (applied_answer (state_at before old settings)) (refuses b right))

pub stopped : (settings : Settings) (c : Command) (old new : Records) (before after : Held) → new ≡ old → whole after ≡ whole before →
    ChangesBy settings c old before Memory new after
stopped settings c old new before after same now =
    inr (refl, ap₂ (λ h m. record { maps = maps_of h m; place = place_of h; settings = settings }) same now)

-- What holds beside a map holds beside one that is the same with other slots.
pub one_more_from : (old now : Records) (before mid : Held) (new : Records) (after : Held) → now ≡ old → whole mid ≡ whole before →
    HasOneMore now mid new after → HasOneMore old before new after
one_more_from old now before mid new after same is more = record {
  maps = more.maps ∙ ap₂ (λ h m. take (place_of h + 1) (maps_of h m) ++ whole after ∷ []) same is;
  place = more.place ∙ ap (λ h. place_of h + 1) same;
  keeps = more.keeps;
}

pub carried : (settings : Settings) (c : Command) (old : Records) (before : Held) (change : Changes) (reply result : Reply) (new : Records) (after : Held) →
    Plans settings (whole before) c change reply → Carries change reply old before result new after → ChangesBy settings c old before result new after
carried settings c old before change reply result new after plans =
    ⊎_elim
    (λ (made : (result ≡ reply) × (whole after ≡ swap (whole before) change) × HasOneMore old before new after).
    subst (λ r. ChangesBy settings c old before r new after) (sym made.0) (changed settings c old before change reply new after plans made.2 made.1))
    (λ (wants : (result ≡ Memory) × (new ≡ old) × (whole after ≡ whole before)).
    subst (λ r. ChangesBy settings c old before r new after) (sym wants.0) (stopped settings c old new before after wants.1 wants.2))

pub not_redone_by : (old : Records) (before : Held) (new : Records) (after : Held) → old.ahead ≡ [] → new ≡ old → after ≡ before → GoesOnBy old before (No NothingToRedo) new after
not_redone_by old before new after none same stays settings =
    not_redone old before none settings ∙ ap₂ (λ h m. record { state = state_at m h settings; answer = Short (No NothingToRedo) }) (sym same) (sym stays)
