pub mod field_table
