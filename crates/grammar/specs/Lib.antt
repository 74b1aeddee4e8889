pub mod Grammar
pub mod Printed
pub mod InGrammar
pub mod PrintedExample
