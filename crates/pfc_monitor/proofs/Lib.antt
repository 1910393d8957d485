pub mod KeptInOrder
