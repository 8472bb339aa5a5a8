pub mod Dispatcher
