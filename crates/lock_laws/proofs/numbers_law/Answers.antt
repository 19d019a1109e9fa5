use Rattle.lock_laws.proofs.Numbers.{lowest_terms, quotient_found}
use Rattle.lock_laws.proofs.numbers_law.Goals as goal

pub returns : goal.returns
returns c = record { fractions = lowest_terms; quotients = quotient_found }
