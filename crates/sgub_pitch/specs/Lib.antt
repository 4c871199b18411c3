pub mod Surface
