pub mod FormTables
pub mod SlotBits
pub mod PinBits
pub mod Masks
