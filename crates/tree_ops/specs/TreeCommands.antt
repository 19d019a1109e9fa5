-- The commands of the tree.
pub use Rattle.map_laws.specs.TreeCommands.{is_tree_command}
