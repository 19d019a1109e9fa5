-- The edited groups that are spread one after another, as it is stated.
use Rattle.std.proofs.Common.{arith}
use Rattle.map_laws.proofs.Lists.{count-tally}
use Rattle.link_laws.specs.EditedGroups.{SpreadEachLaw}
use Rattle.link_laws.proofs.Pairs.{once_by}
use Rattle.link_laws.proofs.SpreadEach.{spread_each}

pub spread_each_is : SpreadEachLaw
spread_each_is b gs m n right r e most =
    spread_each b right gs m n (record { shape = r.shape; linked = r.linked; distinct = once_by gs (λ g. omega (arith, count-tally g gs, r.once g)); apart = r.apart; one = r.one }) e most
