use Rattle.std.proofs.Common.{◌<◌, ◌^◌, length, take, ◌∙◌, ◌++◌, subst, arith, IfSome, ◌≡◌}
use Rattle.std.specs.Prelude.{option_map}
use Rattle.outside_io.proofs.WholeStreams.{read_is_whole}
use Rattle.outside_io.proofs.whole_streams.read_whole.Goals as goal

pub returns-clause-whole : goal.returns-clause-whole
returns-clause-whole g c =
    let out = c.read_to_end.new.buf in
    let small : length out.items < 2 ^ 63 = omega (arith, out.ok.0, out.ok.1, out.small) in
    read_is_whole (g.R.Read.remaining c.args.reader) out.items c.clear.new.self.items c.args.limit c.take.result.limit c.len.result
    (c.take.ensures.limit ∙ c.saturating_add-most.ensures) c.clear.ensures.items (c.len.ensures ∙ out.ok.0) small
    (subst (λ r. IfSome (option_map (take c.take.result.limit) (g.R.Read.remaining r)) (λ xs. out.items ≡ c.clear.new.self.items ++ xs)) c.take.ensures.inner
    c.in_ok-read_to_end.ensures.bytes)
