pub mod owned
