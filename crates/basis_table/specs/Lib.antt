pub mod BasisTable
