use Rattle.facet_laws.proofs.Facets.{facets_are}
use Rattle.facet_laws.proofs.facets_law.Goals as goal

pub returns : goal.returns
returns c = facets_are
