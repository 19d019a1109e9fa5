use Rattle.std.proofs.Common.{◌≡◌, drop}
use Rattle.std.specs.List.{list_all}
use Rattle.map_lex.specs.Bytes.{is_blank, rest_of_line}
use Rattle.map_lex.proofs.spans.blanks_alone_follow.Given as goal

-- what is left answers for all
abbrev pub invariant-loop-byte : goal.invariant-loop-byte
invariant-loop-byte l = list_all is_blank (rest_of_line (drop l.byte-index l.after)) ≡ list_all is_blank (rest_of_line l.after)
