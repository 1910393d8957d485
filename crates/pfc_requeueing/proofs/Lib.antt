pub mod Requeued
