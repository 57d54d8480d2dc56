pub mod RamLaws
