pub mod MappedRows
