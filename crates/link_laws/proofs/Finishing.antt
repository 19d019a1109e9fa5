-- What follows the own changes of a command that is accepted, where the edited groups can be spread.
use Rattle.std.proofs.Common.{◌≡◌, ℕ, ◌+◌, ◌≤◌, map, ap, sym, ◌∙◌, arith, None}
use Rattle.std.specs.Prelude.{Result, Ok, Err, sum, nat_lt, ◌-◌}
use Rattle.std.proofs.lemmas.Bool.{ltb-false}
use Rattle.map_model.specs.Tree.{Whole}
use Rattle.map_model.specs.Below.{Below, IsRight}
use Rattle.map_model.specs.Shape.{Shape}
use Rattle.map_model.specs.Links.{AllOne, spread_all}
use Rattle.map_model.specs.Commands.{Command, Settings}
use Rattle.map_model.specs.Replies.{Refusal, Reply, Full}
use Rattle.map_model.specs.Rows.{rows, first}
use Rattle.map_model.specs.Own.{own}
use Rattle.map_model.specs.Apply.{Applied, apply, apply_accepted, finish, prune, edited, before_spread, empty_link, full, total, images_of, with_reply}
use Rattle.map_laws.proofs.Refused.{accepted, refuse_none}
use Rattle.link_laws.proofs.SpreadEach.{ToSpread, spread_each}

pub record Finished (b : Below) (m : Whole) (c : Command) (k : Whole) (a : Applied) : Type 0 where
  pub empty : empty_link m c (prune m c k) ≡ None
  pub count : (before_spread m c k).next + sum (map (images_of (before_spread m c k)) (edited m c (prune m c k))) ≤ 65536
  pub spread : spread_all b (edited m c (prune m c k)) (before_spread m c k) ≡ Ok a.map

replied : (reply : Reply) (r : Result Whole Refusal) (a : Applied) → with_reply reply r ≡ Ok a → r ≡ Ok a.map
replied reply (Ok m) a e = ap Ok (map_is e)
  where
    map_is : ◌≡◌ {A = Result Applied Refusal} (Ok (record { map = m; reply = reply })) (Ok a) → m ≡ a.map
    map_is e = ap (λ r. elim r as (λ r. Whole) [ Ok x ↦ x.map | Err r ↦ m ]) e
replied reply (Err r) a e = absurd (no_ok e)
  where
    no_ok : ◌≡◌ {A = Result Applied Refusal} (Err r) (Ok a) → ⊥
    no_ok e = cc

pub finished : (b : Below) (m : Whole) (c : Command) (k : Whole) (a : Applied) → finish b m c k ≡ Ok a → Finished b m c k a
finished b m c k a e =
    let x = accepted (empty_link m c (prune m c k)) _ a e in
    let y = accepted (full (total (before_spread m c k) (edited m c (prune m c k)))) _ a x.1 in
    let few = ltb-false 65535 (total (before_spread m c k) (edited m c (prune m c k))) (refuse_none (nat_lt 65535 (total (before_spread m c k) (edited m c (prune m c k)))) (Full (total (before_spread m c k) (edited m c (prune m c k)))) y.0) in
    record {
      empty = x.0;
      count = bound (before_spread m c k).next (sum (map (images_of (before_spread m c k)) (edited m c (prune m c k)))) few;
      spread = replied _ _ a y.1;
    }
  where
    bound : (n d : ℕ) → n - 1 + d ≤ 65535 → n + d ≤ 65536
    bound n d e = omega (arith, e)

-- A command whose edited groups can be spread keeps the shape and the sets.
pub keeps : (b : Below) (s : Settings) (m : Whole) (c : Command) (a : Applied) → IsRight b → apply_accepted b s m c ≡ finish b m c (own b s m c) →
    (first (rows b s m c) ≡ None → empty_link m c (prune m c (own b s m c)) ≡ None → (before_spread m c (own b s m c)).next ≤ 65536 → ToSpread (before_spread m c (own b s m c)) (edited m c (prune m c (own b s m c)))) →
    apply b s m c ≡ Ok a → Shape a.map × AllOne a.map
keeps b s m c a right is ready e =
    let r = accepted (first (rows b s m c)) (apply_accepted b s m c) a e in
    let f = finished b m c (own b s m c) a (sym is ∙ r.1) in
    spread_each b right (edited m c (prune m c (own b s m c))) (before_spread m c (own b s m c)) a.map (ready r.0 f.empty (omega (arith, f.count))) f.spread f.count
