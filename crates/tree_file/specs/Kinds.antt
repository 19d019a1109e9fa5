-- The kinds of nodes that entities of a file are.
use Rattle.map_model.specs.Tree.{Kind, world, layer, group, entity}
use Rattle.tree_file.specs.declared.kinds.Part.{Part}
use Rattle.tree_file.specs.declared.kinds.Part.TheVariants.{World, Layer, Group, Entity}

abbrev pub kind_of_part : Part → Kind
kind_of_part World = world
kind_of_part Layer = layer
kind_of_part Group = group
kind_of_part Entity = entity
