-- The tables of cases are proved of the rules.
pub mod Tables
pub mod TextTables
