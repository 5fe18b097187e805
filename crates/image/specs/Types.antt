-- The types of the record, by one name.
pub use Rattle.ranges.specs.declared.Row.{Row}
pub use Rattle.ranges.specs.declared.Mbr.{Mbr}
pub use Rattle.model.specs.declared.Tables.{Tables}
pub use Rattle.model.specs.declared.PinRow.{PinRow}
pub use Rattle.model.specs.declared.Session.{Session}
pub use Rattle.model.specs.declared.Undo.{Undo}
pub use Rattle.model.specs.declared.Cells.{Cells}
pub use Rattle.model.specs.declared.Secret.{Secret}
pub use Rattle.model.specs.declared.Vault.{Vault}
pub use Rattle.model.specs.declared.Card.{Card}
